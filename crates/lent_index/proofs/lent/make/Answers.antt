-- `lent_index::lent::make` meets its contract.
use Rattle.lent_index.proofs.Calls.{make_short, make_long}
use Rattle.lent_index.proofs.lent.make.Goals as goal

pub returns-then-bytes-lt-INDEX_SIZE : goal.returns-then-bytes-lt-INDEX_SIZE
returns-then-bytes-lt-INDEX_SIZE c = let both = make_short c.args.bytes.now c.if-bytes-lt-INDEX_SIZE.true in record { value = both.0; bytes_after = both.1 }

pub returns : goal.returns
returns c = let both = make_long c.args.bytes.now c.if-bytes-lt-INDEX_SIZE.false c.empty.ensures c.put_index.ensures in record { value = both.0; bytes_after = both.1 }
