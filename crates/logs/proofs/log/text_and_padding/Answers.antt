-- `logs::log::text_and_padding` meets its contract: both are split where the first zero stands.
use Rattle.std.proofs.Common.{◌∙◌}
use Rattle.padded.proofs.Texts.{no_longer}
use Rattle.logs.proofs.Logs.{text_part, padding_part}
use Rattle.logs.proofs.log.text_and_padding.Goals as goal

pub split_at-requires : goal.split_at-requires
split_at-requires c = no_longer c.after_level-rest.result.now c.text_length.ensures

pub returns-clause-text : goal.returns-clause-text
returns-clause-text c = c.split_at.ensures.front ∙ text_part c.args.s.now c.after_level-rest.ensures c.text_length.ensures

pub returns-clause-padding : goal.returns-clause-padding
returns-clause-padding c = c.split_at.ensures.back ∙ padding_part c.args.s.now c.after_level-rest.ensures c.text_length.ensures
