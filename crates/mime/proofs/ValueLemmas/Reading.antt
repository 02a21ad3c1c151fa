-- What reading a text answers, and that the constant media types are stored with their positions.
use Rattle.std.proofs.Common.{◌≡◌, ℕ, List, [], ◌∷◌, refl, sym, ap, ◌∙◌, ◌+◌, length, take, drop, Option, Some, None, codes, rules}
use Rattle.std.specs.Prelude.{codes, unwrap_or}
use Rattle.mime.specs.Bytes.{is_token_byte, space_byte}
use Rattle.mime.specs.Grammar.{SyntaxTree, no_list, plain, final, Tail, listed, text_of, IsToken, IsTail}
use Rattle.mime.specs.Values.{value_of, IsAccepted, IsRejected, lowered_tree}
use Rattle.mime.specs.Faults.{IsFault, Explains}
use Rattle.mime.specs.Inner.Scanning.{HasPositions, positions_of}
use Rattle.mime.specs.Inner.KeptText.{IsKept, kept_positions, positions_in}
use Rattle.mime.specs.declared.scan.fault.ParseError.{ParseError}
use Rattle.mime.specs.declared.scan.fault.ParseError.TheVariants.{InvalidToken}
use Rattle.mime.specs.declared.scan.Positions.{Positions}
use Rattle.mime.specs.Atoms.{atom_text}
use Rattle.mime.specs.declared.atoms.Atom.{Atom}
use Rattle.mime.specs.declared.atoms.Atom.TheVariants.{STAR_STAR}
use Rattle.mime.proofs.GrammarLemmas.Readings.{one_tree}
use Rattle.mime.proofs.ValueLemmas.KeptText.{reads_as}
use Rattle.mime.proofs.GrammarLemmas.Viability.{rejected-at_dead}
use Rattle.mime.proofs.GrammarLemmas.Faults.{completed_is_rejected}

-- A text with positions of its parts is accepted.
pub accepted-from_positions : (text : List ℕ) (positions : Positions) → HasPositions text positions → IsAccepted text
accepted-from_positions text positions has = (value_of has.tree, reads_as has refl)

-- A text with a fault is rejected.
pub rejected-from_fault : (text : List ℕ) (fault : ParseError) → IsFault text fault → IsRejected text
rejected-from_fault text (InvalidToken pos byte) fault = rejected-at_dead text pos byte fault
rejected-from_fault text other fault = completed_is_rejected text other fault

-- A fault explains a fault.
pub Explains-from_fault : (text : List ℕ) (fault : ParseError) → IsFault text fault → Explains text fault
Explains-from_fault text fault is = search rules

-- the tail of a constant's text: a charset where there is a semicolon
abbrev tail_at : Option ℕ → Tail
tail_at None = no_list
tail_at (Some semicolon) = listed (final (space_byte ∷ []) (plain (codes "charset") (codes "utf-8")))

-- The tail of a constant's text is well formed.
is_tail : (semicolon : Option ℕ) → IsTail (tail_at semicolon)
unfolding is_token_byte
is_tail semicolon = search rules

-- the tree of a constant's text
abbrev tree_in : List ℕ → SyntaxTree
tree_in text = record {
  top = take (positions_in text).slash text;
  sub = drop ((positions_in text).slash + 1) (take (unwrap_or (positions_in text).semicolon (length text)) text);
  tail = tail_at (positions_in text).semicolon;
}

-- A text is kept if it is that of the tree in it, which is well formed and its own lowercased form.
kept_by : (text : List ℕ) → IsToken (tree_in text).top → IsToken (tree_in text).sub → lowered_tree (tree_in text) ≡ tree_in text
    → text_of (tree_in text) ≡ text → positions_of (tree_in text) ≡ positions_in text
    → kept_positions (positions_in text) ≡ positions_in text → IsKept text (positions_in text)
kept_by text top sub low spelled same_positions kept = record {
  has = record {
    tree = tree_in text;
    well_formed = (top, sub, is_tail (positions_in text).semicolon);
    spelled = spelled;
    same_positions = same_positions;
  };
  low = low;
  kept = kept;
}

-- Each constant's text is kept: the second line is one case for each constant but the first.
pub kept_atom : (atom : Atom) → IsKept (atom_text atom) (positions_in (atom_text atom))
unfolding is_token_byte
kept_atom STAR_STAR = kept_by (atom_text STAR_STAR) refl refl refl refl refl refl
kept_atom atom = kept_by (atom_text atom) refl refl refl refl refl refl

-- Each part of an accepted text has one position.
pub one_positions : (text : List ℕ) (first second : Positions) → HasPositions text first → HasPositions text second
    → first ≡ second
one_positions text first second has also =
    sym has.same_positions ∙ ap positions_of (one_tree has.tree also.tree has.well_formed also.well_formed (has.spelled
    ∙ sym also.spelled)) ∙ also.same_positions
