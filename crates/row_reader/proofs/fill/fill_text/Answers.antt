-- `row_reader::fill::fill_text` meets its contract.
use Rattle.padded.proofs.Texts.{no_longer}
use Rattle.row_reader.proofs.Filling.{text_set}
use Rattle.row_reader.proofs.fill.fill_text.Goals as goal

pub overflow_sub-row : goal.overflow_sub-row
overflow_sub-row c = no_longer c.args.s.now c.text_length-n.ensures

pub returns : goal.returns
returns c = text_set c.args.s.now c.args.row.now c.requires c.text_length-n.ensures
