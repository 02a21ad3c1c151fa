-- What the file ParameterAnswers says of some texts.
use Rattle.std.proofs.Common.{◌≡◌, ℕ, List, [], ◌∷◌, ◌++◌, refl, sym, arith, codes, None, rules}
use Rattle.std.proofs.lemmas.Bool.{true≢false}
use Rattle.mime.specs.{Bytes.is_token_byte, Bytes.is_quoted_byte, Values.MediaType}
use Rattle.mime_c.specs.{Answers.has_room, Answers.has_no_room, Answers.succeeds, ParameterAnswers.BoundaryIs, ParameterAnswers.UnescapesTo}
use Rattle.mime_c.specs.{ParameterAnswers.room_with, ParameterAnswers.CanBeParameter}
use Rattle.mime_c.specs.{ParameterAnswers.set_parameter, ParameterAnswers.SetsTo}
use Rattle.mime_c.specs.{declared.TheConstants.MIME_OK, declared.TheConstants.MIME_NO_ROOM}

-- `a\"b` means three bytes.
escaped_quote : UnescapesTo (codes "a\\\"b") (codes "-----") MIME_OK (codes "a\"b" ++ 0 ∷ codes "-", 3)
escaped_quote = has_room _ _ (omega arith) succeeds

-- `a\"b` doesn't mean four bytes.
not_four : (new : List ℕ) → ¬ (UnescapesTo (codes "a\\\"b") (codes "-----") MIME_OK (new, 4))
not_four new is = search rules

-- This parameter asks for room for so many bytes.
asked : room_with (codes "a/b") (codes "p") (codes "xy") ≡ 17
asked = refl

-- The media type `a/b;p=q`.
ab_with_p : MediaType
ab_with_p = record { essence = codes "a/b"; slash = 1; plus = None; pairs = (codes "p", codes "q") ∷ []; kept = codes "a/b;p=q" }

-- Its parameter is replaced.
replaced : (set_parameter ab_with_p (codes "P") (codes "x y")).kept ≡ codes "a/b; p=\"x y\""
unfolding ab_with_p is_token_byte
replaced = refl

-- A parameter has a name.
no_name : (value : List ℕ) → ¬ (CanBeParameter [] value)
no_name value is = true≢false (sym is.named)

-- A parameter's value has no line feed.
no_line_feed : (name : List ℕ) → ¬ (CanBeParameter name (10 ∷ []))
unfolding is_quoted_byte
no_line_feed name is = true≢false (sym is.safe)

-- A byte isn't enough for a boundary, nor are five for an empty parameter.
no_room_for_either : BoundaryIs [] (codes "-") MIME_NO_ROOM (codes "-", 0)
    × SetsTo [] [] [] (codes "-----") MIME_NO_ROOM (codes "-----", 0)
no_room_for_either = (has_no_room (omega arith), has_no_room (omega arith))

-- No boundary is written into one byte.
no_boundary_there : (held : List ℕ × ℕ) → ¬ (BoundaryIs [] (codes "-") MIME_OK held)
no_boundary_there held is = search rules

-- No media type is written into five bytes.
no_type_there : (held : List ℕ × ℕ) → ¬ (SetsTo [] [] [] (codes "-----") MIME_OK held)
no_type_there held is = search rules
