-- Behind the parts the kept text is written, and what is found is in the essence.
use Rattle.std.proofs.Common.{rules, length-append}
use Rattle.std.proofs.lemmas.List.{length-map}
use Rattle.mime_c.proofs.Writing.{fits, wrote-first, strings_of_texts}
use Rattle.mime_c.proofs.put_texts.Goals as goal

pub put-found-requires : goal.put-found-requires
put-found-requires c = search (strings_of_texts, fits, wrote-first, length-append, rules)

pub returns : goal.returns
returns c = search (wrote-first, strings_of_texts, length-map, rules)
