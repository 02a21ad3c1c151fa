-- The laws, each proved where its words are.
use Rattle.mime_http.proofs.Contents.{written_is_meant}
use Rattle.mime_http.proofs.Cuts.{one_cut}
use Rattle.mime_http.proofs.Demanded.{covers_itself, meaning_counts}
use Rattle.mime_http.proofs.Highest.{closest_is_closest}
use Rattle.mime_http.proofs.Lists.{http_lists_are_read, read_are_http_lists, bad_is_alone}
use Rattle.mime_http.proofs.Numbers.{qvalues_are, weight_is_number}
use Rattle.mime_http.proofs.Order.{best_is_acceptable, best_is_first, none_is_best, best_is_ranked_first}
use Rattle.mime_http.proofs.PlainIsHttp.{plain_is_http}

-- Each law, under its lemma's name.
pub ruleset laws = (
  plain_is_http,
  one_cut,
  http_lists_are_read,
  read_are_http_lists,
  bad_is_alone,
  closest_is_closest,
  written_is_meant,
  best_is_acceptable,
  best_is_first,
  none_is_best,
  best_is_ranked_first,
  covers_itself,
  meaning_counts,
  qvalues_are,
  weight_is_number,
)
