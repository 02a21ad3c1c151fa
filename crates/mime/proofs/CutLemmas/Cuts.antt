-- A text has one cut, and what a cut makes of its text.
use Rattle.std.proofs.lemmas.Grind.{common_steps}
use Rattle.std.proofs.Math.Seq.{take-append_seam, drop-append_seam, take-length}
use Rattle.std.proofs.lemmas.Bool.{and_parts}
use Rattle.std.proofs.Common.{◌≡◌, ℕ, zero, suc, ◌+◌, ◌<◌, Bool, true, false, List, [], ◌∷◌, ◌++◌, length, take, drop, Some, None, refl}
use Rattle.std.proofs.Common.{sym, ap, ◌∙◌, subst, arith, ◌⊎◌, inl, inr, ⊎_elim, rules}
use Rattle.std.specs.Prelude.{IsTrue, ◌&&◌}
use Rattle.std.specs.List.{list_all, prefix_len}
use Rattle.mime.specs.Values.{IsAccepted, IsRejected}
use Rattle.mime.specs.Faults.{IsViable}
use Rattle.mime.specs.CutLaws.{items_of_rest}
use Rattle.mime.specs.Cut.{is_following_byte, BeginsCharacter, IsCharacter, IsSplit, CutItem, good, ItemsOf, is_read, is_rejected, is_empty}
use Rattle.mime.specs.Cut.{Cut, whole, unfinished, goes_on, Pieces, last, next, TakesSteps}
use Rattle.mime.proofs.GrammarLemmas.Begun.{Begun, in_type, grow, walk, tree_of}
use Rattle.mime.proofs.GrammarLemmas.Readings.{one_reading, rejected-from_walk, stopped-from_walk}
use Rattle.mime.proofs.GrammarLemmas.Viability.{by_option, accepted-from_complete, viable-from_walk, prefix-from_walk, prefix_unique}
use Rattle.mime.proofs.GrammarLemmas.Viability.{accepted_is_viable, empty_is_viable, stop-from_walk}

-- ---- a character

-- the bytes that follow a character's first one, and what is left after them
pub record Following (bytes : List ℕ) : Type 0 where
  pub following : List ℕ
  pub left : List ℕ
  pub spelled : bytes ≡ following ++ left
  pub of_class : IsTrue (list_all is_following_byte following)
  pub begins : BeginsCharacter left

-- Bytes have following bytes at their start, and what is left.
pub following_of : (bytes : List ℕ) → Following bytes
following_of [] = record { following = []; left = []; spelled = refl; of_class = refl; begins = tt }
following_of (b ∷ bytes) = onward (is_following_byte b) refl (following_of bytes)
  where
    onward : (follows : Bool) → is_following_byte b ≡ follows → Following bytes → Following (b ∷ bytes)
    onward true follows rest = record {
      following = b ∷ rest.following;
      left = rest.left;
      spelled = ap (λ t. b ∷ t) rest.spelled;
      of_class = ap (λ x. x && list_all is_following_byte rest.following) follows ∙ rest.of_class;
      begins = rest.begins;
    }
    onward false other rest = record { following = []; left = b ∷ bytes; spelled = refl; of_class = refl; begins = other }

-- How many bytes follow a character's first.
following_len : (f l : List ℕ) → IsTrue (list_all is_following_byte f) → BeginsCharacter l
    → prefix_len is_following_byte (f ++ l) ≡ length f
following_len [] [] all begins = refl
following_len [] (b ∷ l) all begins = rw begins
following_len (b ∷ f) l all begins =
    let parts = and_parts (is_following_byte b) (list_all is_following_byte f) all in
    rw (parts.0, following_len f l parts.1 begins) (omega arith)

-- The text determines how long its character is.
character_len : (c l : List ℕ) → IsCharacter c l → suc (prefix_len is_following_byte (drop 1 (c ++ l))) ≡ length c
character_len [] l one = absurd one
character_len (b ∷ f) l one = ap suc (following_len f l one.0 one.1)

-- A text is cut in one way into parts of given lengths.
parts_unique : (xs ys us vs : List ℕ) → xs ++ ys ≡ us ++ vs → length xs ≡ length us → (xs ≡ us) × (ys ≡ vs)
parts_unique xs ys us vs e size = (
  sym (take-append_seam xs ys) ∙ ap (λ n. take n (xs ++ ys)) size ∙ ap (take (length us)) e ∙ take-append_seam us vs,
  sym (drop-append_seam xs ys) ∙ ap (λ n. drop n (xs ++ ys)) size ∙ ap (drop (length us)) e ∙ drop-append_seam us vs,
)

-- ---- a split

-- a text is split in one way
pub record SameSplit (p c l q d m : List ℕ) : Type 0 where
  pub piece : p ≡ q
  pub character : c ≡ d
  pub left : l ≡ m

-- A text is split in one way.
pub split_unique : (text p c l q d m : List ℕ) → IsSplit text p c l → IsSplit text q d m → SameSplit p c l q d m
split_unique text p c l q d m one two =
    let size : length p ≡ length q = prefix_unique text (length p) (length q) one.prefix two.prefix in
    let parts = parts_unique p (c ++ l) q (d ++ m) (sym one.spelled ∙ two.spelled) size in
    let same = parts_unique c l d m parts.1
    (sym (character_len c l one.is_character) ∙ ap (λ t. suc (prefix_len is_following_byte (drop 1 t))) parts.1
    ∙ character_len d m two.is_character) in
    record { piece = parts.0; character = same.0; left = same.1 }

-- Piece, character and what is left make up the text.
pub split-size : (text p c l : List ℕ) → IsSplit text p c l → (length text ≡ length p + (length c + length l)) × (0 < length c)
split-size text p c l split = grind (arith, common_steps)

-- What is split isn't viable.
pub split-not_viable : (text p c l : List ℕ) → IsSplit text p c l → IsViable text → ⊥
split-not_viable text p c l split viable =
    let size = split-size text p c l split in
    split.prefix.longest (length text) (omega (arith, size.0, size.1)) (omega arith) (subst IsViable (sym (take-length text)) viable)

-- A byte that leads nowhere splits a text.
pub split-from_dead : (prefix bytes : List ℕ) (b : ℕ) (begun : Begun) (rest : Following bytes) → walk prefix ≡ Some begun
    → grow begun b ≡ None → IsSplit (prefix ++ (b ∷ bytes)) prefix (b ∷ rest.following) rest.left
split-from_dead prefix bytes b begun rest walked dead = search (prefix-from_walk, rules)

-- ---- which rule applies to a text

-- A text is accepted or rejected.
pub accepted_or_rejected : (text : List ℕ) → IsAccepted text ⊎ IsRejected text
accepted_or_rejected text =
    by_option (walk text) (λ stopped. inr (stopped-from_walk text stopped))
    (λ begun walked.
    by_option (tree_of begun) (λ is. inr (rejected-from_walk text begun walked is))
    (λ tree is. inl (accepted-from_complete text begun tree walked is)))

-- A text that can't be walked is split.
split-from_walk : (text : List ℕ) → walk text ≡ None → (p : List ℕ) × (c : List ℕ) × (l : List ℕ) × IsSplit text p c l
split-from_walk text stopped =
    let stop = stop-from_walk (in_type []) text stopped in
    let rest = following_of stop.rest in (
      stop.prefix,
      stop.byte ∷ rest.following,
      rest.left,
      subst (λ t. IsSplit t stop.prefix (stop.byte ∷ rest.following) rest.left) (sym stop.spelled)
          (split-from_dead stop.prefix stop.rest stop.byte stop.begun rest stop.walked stop.dead),
    )

-- ---- a text has a cut

-- The empty text is no media type.
pub empty-rejected : IsRejected []
empty-rejected = rejected-from_walk [] (in_type []) refl refl

-- The empty text has no item.
pub empty-cut : Cut [] [] []
empty-cut = unfinished [] empty_is_viable empty-rejected

-- the cut of a text, whichever it is
pub record HasCut (text : List ℕ) : Type 0 where
  pub items : List CutItem
  pub rest : List ℕ
  pub cut : Cut text items rest

-- A rejected piece is a bad piece, or empty.
pub items-from_rejected : (piece : List ℕ) → IsRejected piece → ItemsOf piece (items_of_rest piece)
items-from_rejected [] is = is_empty refl
items-from_rejected (b ∷ piece) is = is_rejected is (λ e. absurd (omega (arith, ap length e)))

-- The items of a piece, whichever they are.
has_items : (piece : List ℕ) → (first : List CutItem) × ItemsOf piece first
has_items piece =
    ⊎_elim (λ accepted. (_, is_read accepted.0 accepted.1)) (λ is. (_, items-from_rejected piece is)) (accepted_or_rejected piece)

-- A text of fewer bytes than a number has a cut.
cut_within : (n : ℕ) (text : List ℕ) → length text < n → HasCut text
cut_within zero text below = absurd (omega arith)
cut_within (suc n) text below =
    by_option (walk text)
    (λ stopped.
    let (p, c, l, split) = split-from_walk text stopped in
    let size = split-size text p c l split in
    let first = has_items p in
    let others = cut_within n l (omega (arith, size.0, size.1, below)) in
    record { items = _; rest = _; cut = goes_on text p c l first.0 others.items others.rest split first.1 others.cut })
    (λ begun walked.
    ⊎_elim (λ accepted. record { items = _; rest = _; cut = whole text accepted.0 accepted.1 })
    (λ is. record { items = _; rest = _; cut = unfinished text (viable-from_walk text begun walked) is }) (accepted_or_rejected text))

-- Each text has a cut.
pub has_cut : (text : List ℕ) → HasCut text
has_cut text = cut_within (suc (length text)) text (omega arith)

-- ---- and only one

-- A piece has one list of items.
pub items_of_unique : (piece : List ℕ) (one two : List CutItem) → ItemsOf piece one → ItemsOf piece two → one ≡ two
items_of_unique piece one two (is_read v reads) (is_read w again) = ap (λ x. good piece x ∷ []) (one_reading piece v w reads again)
items_of_unique piece one two (is_read v reads) (is_rejected is some) = absurd (is (v, reads))
items_of_unique piece one two (is_read v reads) (is_empty e) = absurd (empty-rejected (subst IsAccepted e (v, reads)))
items_of_unique piece one two (is_rejected is some) (is_read w again) = absurd (is (w, again))
items_of_unique piece one two (is_rejected is some) (is_rejected too also) = refl
items_of_unique piece one two (is_rejected is some) (is_empty e) = absurd (some e)
items_of_unique piece one two (is_empty e) (is_read w again) = absurd (empty-rejected (subst IsAccepted e (w, again)))
items_of_unique piece one two (is_empty e) (is_rejected is some) = absurd (some e)
items_of_unique piece one two (is_empty e) (is_empty f) = refl

-- a split text's cut: the items of its piece, and then those of what is left
pub record Leaves (first : List CutItem) (left : List ℕ) (items : List CutItem) (rest : List ℕ) : Type 0 where
  pub others : List CutItem
  pub appended : items ≡ first ++ others
  pub cut : Cut left others rest

-- A split text's cut has the items of its piece, and then those of what is left.
pub split_inv : (text p c l : List ℕ) (first items : List CutItem) (rest : List ℕ) → IsSplit text p c l → ItemsOf p first
    → Cut text items rest → Leaves first l items rest
split_inv text p c l first items rest split has (whole t v reads) =
    absurd (split-not_viable t p c l split (accepted_is_viable t (v, reads)))
split_inv text p c l first items rest split has (unfinished t viable is) = absurd (split-not_viable t p c l split viable)
split_inv text p c l first items rest split has (goes_on t q d m own others r again of_piece cut) =
    let same = split_unique t q d m p c l again split in
    record {
      others = others;
      appended = ap (λ f. f ++ others) (items_of_unique p own first (subst (λ x. ItemsOf x own) same.piece of_piece) has);
      cut = subst (λ x. Cut x others r) same.left cut;
    }

-- A text has one cut.
pub cut_unique : (text : List ℕ) (items : List CutItem) (rest : List ℕ) → Cut text items rest
    → (others : List CutItem) (left : List ℕ) → Cut text others left → (others ≡ items) × (left ≡ rest)
cut_unique text items rest (whole t v reads) others left (whole u w again) =
    (ap (λ x. good u x ∷ []) (one_reading u w v again reads), refl)
cut_unique text items rest (whole t v reads) others left (unfinished u viable is) = absurd (is (v, reads))
cut_unique text items rest (whole t v reads) others left (goes_on u p c l first own r split of_piece cut) =
    absurd (split-not_viable u p c l split (accepted_is_viable u (v, reads)))
cut_unique text items rest (unfinished t viable is) others left (whole u w again) = absurd (is (w, again))
cut_unique text items rest (unfinished t viable is) others left (unfinished u too also) = (refl, refl)
cut_unique text items rest (unfinished t viable is) others left (goes_on u p c l first own r split of_piece cut) =
    absurd (split-not_viable u p c l split viable)
cut_unique text items rest (goes_on t p c l first own r split of_piece cut) others left second =
    let leaves = split_inv t p c l first others left split of_piece second in
    let same = cut_unique l own r cut leaves.others left leaves.cut in
    (leaves.appended ∙ ap (λ o. first ++ o) same.0, same.1)

-- ---- the steps

-- A split counts a step for each byte of its piece and one for the character.
pub takes-split : (text p c l : List ℕ) (n : ℕ) → IsSplit text p c l → TakesSteps l n → TakesSteps text (length p + 1 + n)
takes-split text p c l n split takes =
    record {
      pieces = (p, c) ∷ takes.pieces;
      end = takes.end;
      cut = next text p c l takes.pieces takes.end split takes.cut;
      counted = ap (λ k. length p + 1 + k) takes.counted;
    }

-- A viable text counts one for each byte.
pub takes-viable : (text : List ℕ) → IsViable text → TakesSteps text (length text)
takes-viable text viable = record { pieces = []; end = text; cut = last text viable; counted = refl }

-- A text has one list of pieces.
pieces_unique : (text : List ℕ) (pieces : List (List ℕ × List ℕ)) (end : List ℕ) → Pieces text pieces end
    → (others : List (List ℕ × List ℕ)) (stop : List ℕ) → Pieces text others stop → (others ≡ pieces) × (stop ≡ end)
pieces_unique text pieces end (last t viable) others stop (last u too) = (refl, refl)
pieces_unique text pieces end (last t viable) others stop (next u q d m more e again found) = absurd (split-not_viable u q d m again viable)
pieces_unique text pieces end (next t p c l own e split found) others stop (last u viable) = absurd (split-not_viable u p c l split viable)
pieces_unique text pieces end (next t p c l own e split found) others stop (next u q d m more f again other) =
    let same = split_unique u q d m p c l again split in
    let rest = pieces_unique l own e found more f (subst (λ x. Pieces x more f) same.left other) in
    (ap (λ x. (x, d) ∷ more) same.piece ∙ ap (λ x. (p, x) ∷ more) same.character ∙ ap (λ x. (p, c) ∷ x) rest.0, rest.1)

-- A text takes one number of steps.
pub takes_unique : (text : List ℕ) (n m : ℕ) → TakesSteps text n → TakesSteps text m → n ≡ m
takes_unique text n m one two = search (pieces_unique, rules)
