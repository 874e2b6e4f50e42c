-- LOG as a row of numbers.
use Rattle.rows_back.specs.LogRows.{LogRows}
use Rattle.rows_back.proofs.LogRead.{either, gives, gives_22, gives_23, gives_32}
use Rattle.rows_back.proofs.LogBack.{taken, sized, found, payload, row_back}

pub log_rows : LogRows
log_rows = record {
  read = λ s text n room h parts enough. gives s room h text n parts enough;
  read_22 = gives_22;
  read_23 = gives_23;
  read_32 = λ s text n room h parts few. gives_32 s room h text n parts few;
  either = either;
  taken = taken;
  back = λ sender level text padding buf n small byte g. (
    sized sender level text padding buf n small byte g,
    found sender level text padding buf n small byte g,
    payload sender level text padding buf n small byte g,
    row_back sender level text padding buf n small byte g,
  );
}
