-- What the flags of a HEARTBEAT mean (003, tables 6.5.3 to 6.5.6).
use Rattle.std.specs.Prelude.{ℕ, Bool}
use Rattle.wire.specs.Number.{flag_at}

abbrev pub system_error : ℕ → Bool
system_error flags = flag_at flags 0

abbrev pub io_error : ℕ → Bool
io_error flags = flag_at flags 1

abbrev pub nap_error : ℕ → Bool
nap_error flags = flag_at flags 2

abbrev pub external_antenna : ℕ → Bool
external_antenna flags = flag_at flags 31
