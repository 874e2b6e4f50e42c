-- `crc::bytes::word` meets its contract: four pairs are eight bytes.
use mathlib.Core.Path.{◌∙◌}
use Rattle.crc.proofs.Words.{word_is}
use Rattle.crc.proofs.bytes.word.Goals as goal

pub returns : goal.returns
returns c =
    let a = c.args in
    c.of_pairs.ensures
    ∙ word_is a.s.now (λ i. (c.shared_slice_known-1.given i).fits) a.i c.requires
    c.pair.ensures.0
    c.pair-2.ensures.0
    c.pair-3.ensures.0
    c.pair-4.ensures.0
