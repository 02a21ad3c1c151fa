-- It is decided whether the key accepts a name, so it finds an answer.
use Rattle.mime_facts.proofs.string_key_has_one_answer.Goals as goal

pub returns-clause-least : goal.returns-clause-least
returns-clause-least c = c.one_answer.ensures.least (c.keys_decide.ensures.string c.args.key.now)
