-- OBS as rows of numbers.
use Rattle.rows_back.specs.ObsRows.{ObsRows}
use Rattle.rows_back.proofs.ObsRead.{gives, gives_22, gives_32}
use Rattle.rows_back.proofs.OneRead.{one_21, one_22, one_25, one_32, one_given}
use Rattle.rows_back.proofs.ObsTaken.{taken}
use Rattle.rows_back.proofs.ObsBack.{sized, found, head_back, one_back}

pub obs_rows : ObsRows
obs_rows = record {
  read = λ s k room h enough. gives s room k h enough;
  read_22 = gives_22;
  read_32 = λ s k room h few. gives_32 s room k h few;
  one = λ s k i room bytes h below enough. one_given s i room k h below bytes enough;
  one_21 = one_21;
  one_22 = one_22;
  one_25 = λ s k i room h past. one_25 s i room k h past;
  one_32 = λ s k i room h below few. one_32 s i room k h below few;
  taken = taken;
  back = λ sender hs ns buf n small hw w g. (
    sized sender hs ns buf n small hw w g,
    found sender hs ns buf n small hw w g,
    head_back sender hs ns buf n small hw w g,
    one_back sender hs ns buf n small hw w g,
  );
}
