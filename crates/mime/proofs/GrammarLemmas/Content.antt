-- Quoted content: it is taken byte by byte, and what was taken and awaits no more is content.
use Rattle.std.proofs.Common.{◌≡◌, ℕ, ◌≤◌, Bool, true, false, List, [], ◌∷◌, ◌++◌, refl, sym, ap, ◌∙◌, subst, arith, rules}
use Rattle.std.specs.Prelude.{IsTrue, IsFalse, ◌==◌, ◌&&◌, not}
use Rattle.std.specs.{Char.to_ascii_lowercase, List.list_all}
use Rattle.std.proofs.lemmas.Bool.{and_parts, and_from, eqb-true, true≢false}
use Rattle.std.proofs.lemmas.Bool.Decides.{nat_tests}
use Rattle.mime.specs.Bytes.{is_quoted_byte, is_quoted_text_byte, quote_byte, backslash_byte}
use Rattle.mime.specs.Grammar.{IsContent, no_byte, text_byte, quoted_pair}
use Rattle.mime.specs.Values.{lowered}
use Rattle.mime.specs.Inner.Quoted.{awaits_next, takes, takes_all, awaits_after, IsOpenContent, continues}

-- ---- one byte

-- A quote is taken where a byte is awaited, and closes the value elsewhere.
takes-quote : (awaiting : Bool) → takes awaiting quote_byte ≡ awaiting
unfolding is_quoted_byte
takes-quote awaiting = search rules

-- A byte past ASCII that isn't taken is 192 or above.
pub takes-high : (awaiting : Bool) (b : ℕ) → IsFalse (takes awaiting b) → 128 ≤ b → 192 ≤ b
unfolding is_quoted_byte
takes-high awaiting b not_taken high = search rules

-- A value takes a byte exactly if it takes its lowercase letter.
takes-of_lowercase : (awaiting : Bool) (b : ℕ) → takes awaiting (to_ascii_lowercase b) ≡ takes awaiting b
unfolding is_quoted_byte
takes-of_lowercase awaiting b = search rules

-- After a byte of a value another is awaited exactly if one is after its lowercase letter.
awaits_next-lowercase : (awaiting : Bool) (b : ℕ) → awaits_next awaiting (to_ascii_lowercase b) ≡ awaits_next awaiting b
awaits_next-lowercase awaiting b = search rules

-- What is taken closes nothing.
pub taken-closes_not : (awaiting : Bool) (b : ℕ) → IsTrue (takes awaiting b) → not awaiting && b == quote_byte ≡ false
taken-closes_not awaiting b taken = search rules

-- ---- quoted text and pairs

-- Quoted text is taken.
takes-text : (b : ℕ) → IsTrue (is_quoted_text_byte b) → IsTrue (takes false b)
takes-text b text = grind (arith, nat_tests)

-- Quoted text awaits no byte.
awaits_next-text : (b : ℕ) → IsTrue (is_quoted_text_byte b) → awaits_next false b ≡ false
awaits_next-text b text = grind (arith, nat_tests)

-- A backslash is taken.
pub takes-backslash : IsTrue (takes false backslash_byte)
unfolding is_quoted_byte
takes-backslash = refl

-- No other byte is taken.
pub not_taken : (b : ℕ) → IsFalse (is_quoted_text_byte b) → IsFalse (b == backslash_byte) → IsFalse (takes false b)
not_taken b no_text other = grind (arith, nat_tests)

-- ---- content is what is taken and awaits no more

-- Content is taken.
pub content-taken : (content : List ℕ) → IsContent content → IsOpenContent content
content-taken bytes no_byte = refl
content-taken bytes (text_byte b content text more) =
    and_from (takes false b) _ (takes-text b text)
    (subst (λ awaiting. IsTrue (takes_all awaiting content)) (sym (awaits_next-text b text)) (content-taken content more))
content-taken bytes (quoted_pair b content fits more) =
    and_from (takes false backslash_byte) _ takes-backslash
    (and_from (takes true b) (takes_all false content) fits (content-taken content more))

-- After content no byte is awaited.
pub content-awaits : (content : List ℕ) → IsContent content → awaits_after false content ≡ false
content-awaits bytes no_byte = refl
content-awaits bytes (text_byte b content text more) =
    ap (λ (awaiting : Bool). awaits_after awaiting content) (awaits_next-text b text) ∙ content-awaits content more
content-awaits bytes (quoted_pair b content fits more) = content-awaits content more

-- what makes content, after a backslash or not
abbrev ContentFrom : Bool → List ℕ → Type 0
ContentFrom true bytes = IsContent (backslash_byte ∷ bytes)
ContentFrom false bytes = IsContent bytes

-- What is taken and awaits no more makes content.
content_from : (awaiting : Bool) (bytes : List ℕ) → IsTrue (takes_all awaiting bytes) → awaits_after awaiting bytes ≡ false
    → ContentFrom awaiting bytes
content_from true [] all done = absurd (true≢false done)
content_from false [] all done = no_byte
content_from true (b ∷ bytes) all done =
    let parts = and_parts (takes true b) (takes_all false bytes) all in
    quoted_pair b bytes parts.0 (content_from false bytes parts.1 done)
content_from false (b ∷ bytes) all done =
    let parts = and_parts (takes false b) (takes_all (b == backslash_byte) bytes) all in
    go (b == backslash_byte) refl parts.0 (content_from (b == backslash_byte) bytes parts.1 done)
  where
    go : (backslash : Bool) → b == backslash_byte ≡ backslash → IsTrue (takes false b) → ContentFrom backslash bytes
        → IsContent (b ∷ bytes)
    go true same taken more = subst (λ first. IsContent (first ∷ bytes)) (sym (eqb-true b backslash_byte same)) more
    go false other taken more = text_byte b bytes (grind (arith, nat_tests, taken, other)) more

-- Open content that awaits no byte is content.
pub IsContent-taken : (content : List ℕ) → IsOpenContent content → awaits_after false content ≡ false → IsContent content
IsContent-taken content all done = content_from false content all done

-- ---- byte after byte

-- Whether a byte is awaited after joined bytes, and whether they are taken.
pub awaits_after-append : (awaiting : Bool) (run more : List ℕ)
    → awaits_after awaiting (run ++ more) ≡ awaits_after (awaits_after awaiting run) more
awaits_after-append awaiting [] more = refl
awaits_after-append awaiting (b ∷ run) more = awaits_after-append (awaits_next awaiting b) run more

-- Joined bytes are taken if each is taken from where the one before ends.
pub takes_all-append : (awaiting : Bool) (run more : List ℕ) → IsTrue (takes_all awaiting run)
    → IsTrue (takes_all (awaits_after awaiting run) more) → IsTrue (takes_all awaiting (run ++ more))
takes_all-append awaiting [] more all taken = taken
takes_all-append awaiting (b ∷ run) more all taken =
    let parts = and_parts (takes awaiting b) (takes_all (awaits_next awaiting b) run) all in
    and_from (takes awaiting b) _ parts.0 (takes_all-append (awaits_next awaiting b) run more parts.1 taken)

-- A byte that continues open content leaves it open.
pub IsOpenContent-push : (content : List ℕ) (b : ℕ) → IsOpenContent content → IsTrue (continues content b)
    → IsOpenContent (content ++ b ∷ [])
IsOpenContent-push content b all taken = takes_all-append false content (b ∷ []) all (and_from (continues content b) true taken refl)

-- Quoted text is taken, and awaits nothing.
pub takes_all-text : (run : List ℕ) → IsTrue (list_all is_quoted_text_byte run) → IsTrue (takes_all false run)
takes_all-text [] all = refl
takes_all-text (b ∷ run) all =
    let parts = and_parts (is_quoted_text_byte b) (list_all is_quoted_text_byte run) all in
    and_from (takes false b) _ (takes-text b parts.0)
    (subst (λ awaiting. IsTrue (takes_all awaiting run)) (sym (awaits_next-text b parts.0)) (takes_all-text run parts.1))

-- After quoted text no byte is awaited.
pub awaits_after-text : (run : List ℕ) → IsTrue (list_all is_quoted_text_byte run) → awaits_after false run ≡ false
awaits_after-text [] all = refl
awaits_after-text (b ∷ run) all =
    let parts = and_parts (is_quoted_text_byte b) (list_all is_quoted_text_byte run) all in
    ap (λ (awaiting : Bool). awaits_after awaiting run) (awaits_next-text b parts.0) ∙ awaits_after-text run parts.1

-- Open content that a quote doesn't continue is content.
pub IsContent-closed : (content : List ℕ) (b : ℕ) → IsOpenContent content → IsFalse (continues content b)
    → IsTrue (b == quote_byte) → IsContent content
IsContent-closed content b all stopped same =
    IsContent-taken content all
    (sym (takes-quote (awaits_after false content)) ∙ ap (continues content) (sym (eqb-true b quote_byte same)) ∙ stopped)

-- A quote doesn't continue content.
pub content-closed : (content : List ℕ) → IsContent content → IsFalse (continues content quote_byte)
content-closed content is = takes-quote (awaits_after false content) ∙ content-awaits content is

-- Quoted text is taken where a byte is awaited too.
pub takes_all-any : (awaiting : Bool) (run : List ℕ) → IsTrue (list_all is_quoted_text_byte run) → IsTrue (takes_all awaiting run)
takes_all-any awaiting [] all = refl
takes_all-any false run all = takes_all-text run all
takes_all-any true (b ∷ run) all =
    let parts = and_parts (is_quoted_text_byte b) (list_all is_quoted_text_byte run) all in
    and_from (is_quoted_byte b) _ (and_parts (is_quoted_byte b) _ parts.0).0 (takes_all-text run parts.1)

-- A quote after a letter closes the value.
pub closed-letter : (content : List ℕ) → IsFalse (continues (content ++ 120 ∷ []) quote_byte)
closed-letter content = search (takes-quote, awaits_after-append, rules)

-- ---- lowercasing

-- Lowercasing doesn't change whether bytes are content.
takes_all-lowered : (awaiting : Bool) (bytes : List ℕ) → takes_all awaiting (lowered bytes) ≡ takes_all awaiting bytes
takes_all-lowered awaiting [] = refl
takes_all-lowered awaiting (b ∷ bytes) =
    rw (takes-of_lowercase awaiting b) (ap (λ rest. takes awaiting b && rest)
    (ap (λ a. takes_all a (lowered bytes)) (awaits_next-lowercase awaiting b) ∙ takes_all-lowered (awaits_next awaiting b) bytes))

-- Lowercasing doesn't change whether a byte is awaited.
awaits_after-lowered : (awaiting : Bool) (bytes : List ℕ) → awaits_after awaiting (lowered bytes) ≡ awaits_after awaiting bytes
awaits_after-lowered awaiting [] = refl
awaits_after-lowered awaiting (b ∷ bytes) =
    ap (λ (a : Bool). awaits_after a (lowered bytes)) (awaits_next-lowercase awaiting b)
    ∙ awaits_after-lowered (awaits_next awaiting b) bytes

-- Content in another case is content.
pub IsContent-case : (content other : List ℕ) → lowered other ≡ lowered content → IsContent content → IsContent other
IsContent-case content other same is =
    IsContent-taken other
    (sym (takes_all-lowered false other) ∙ ap (takes_all false) same ∙ takes_all-lowered false content ∙ content-taken content is)
    (sym (awaits_after-lowered false other) ∙ ap (awaits_after false) same
    ∙ awaits_after-lowered false content ∙ content-awaits content is)
