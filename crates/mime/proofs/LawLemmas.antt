-- Laws on which no code rests.
use Rattle.mime.proofs.{CutLemmas.Containment.comma_contains, CutLemmas.Containment.cut_has_items, CutLemmas.Containment.cut_writes_text}
use Rattle.mime.proofs.{CutLemmas.Containment.http_list_is_cut, CutLemmas.Containment.joined_comes_back, CutLemmas.Containment.one_count}
use Rattle.mime.proofs.{CutLemmas.Containment.one_cut, GrammarLemmas.Characters.passes_one_character}
use Rattle.mime.proofs.{GrammarLemmas.Characters.prefix_ends_between_characters, GrammarLemmas.Faults.completed_is_rejected}
use Rattle.mime.proofs.{GrammarLemmas.Faults.one_completion, GrammarLemmas.Faults.one_longest_prefix, GrammarLemmas.Readings.one_tree}
use Rattle.mime.proofs.{GrammarLemmas.Viability.accepted_is_viable, GrammarLemmas.Viability.empty_is_viable}
use Rattle.mime.proofs.{GrammarLemmas.Viability.prefix_of_viable_is_viable, IterLemmas.run_gives_cut, LawLemmas.Keys.has_answer}
use Rattle.mime.proofs.{LawLemmas.Keys.one_answer, LawLemmas.Keys.text_decides, LawLemmas.Written.essence_is_read}
use Rattle.mime.proofs.{LawLemmas.Written.parameter_is_read, ValueLemmas.Hash.hash_is_prefix_free, ValueLemmas.KeptText.kept_is_read}
use Rattle.mime.proofs.{ValueLemmas.Traits.one_order, ValueLemmas.Traits.tells_media}
pub mod Written
pub mod Keys
pub mod Utf8Prefixes

-- Each law, proved where its words are.
pub ruleset laws = (
  one_tree,
  empty_is_viable,
  prefix_of_viable_is_viable,
  accepted_is_viable,
  one_completion,
  completed_is_rejected,
  one_longest_prefix,
  prefix_ends_between_characters,
  kept_is_read,
  essence_is_read,
  parameter_is_read,
  one_order,
  one_answer,
  has_answer,
  text_decides,
  tells_media,
  hash_is_prefix_free,
  one_cut,
  cut_has_items,
  cut_writes_text,
  passes_one_character,
  one_count,
  comma_contains,
  joined_comes_back,
  http_list_is_cut,
  run_gives_cut,
)
