-- What each message's own reader makes of a payload is what the one list says.
use Rattle.std.proofs.Common.{◌≡◌, ℕ, List, sym}
use Rattle.payloads.specs.Payloads.{read_for}
use Rattle.payloads.specs.Types.{type_number}
use Rattle.payloads.specs.declared.kind.MessageType.{MessageType}
use Rattle.payloads.specs.declared.kind.MessageType.TheVariants as T
use Rattle.payloads.proofs.Entries.{promised, obs_read, log_read}
use Rattle.readings.specs.Inner.{read_by}

pub by_own_reader : (t : MessageType) (s : List ℕ) → read_by t s ≡ read_for (type_number t) s
by_own_reader T.Obs s = sym (obs_read s)
by_own_reader T.GpsTime s = sym (promised.1.0.1 s)
by_own_reader T.Dops s = sym (promised.1.1.0.1 s)
by_own_reader T.PosEcef s = sym (promised.1.1.1.0.1 s)
by_own_reader T.PosLlh s = sym (promised.1.1.1.1.0.1 s)
by_own_reader T.BaselineEcef s = sym (promised.1.1.1.1.1.0.1 s)
by_own_reader T.VelEcef s = sym (promised.1.1.1.1.1.1.0.1 s)
by_own_reader T.BaselineNed s = sym (promised.1.1.1.1.1.1.1.0.1 s)
by_own_reader T.VelNed s = sym (promised.1.1.1.1.1.1.1.1.0.1 s)
by_own_reader T.BaselineHeading s = sym (promised.1.1.1.1.1.1.1.1.1.0.1 s)
by_own_reader T.BasePosLlh s = sym (promised.1.1.1.1.1.1.1.1.1.1.0.1 s)
by_own_reader T.BasePosEcef s = sym (promised.1.1.1.1.1.1.1.1.1.1.1.0.1 s)
by_own_reader T.EphemerisGps s = sym (promised.1.1.1.1.1.1.1.1.1.1.1.1.0.1 s)
by_own_reader T.EphemerisSbas s = sym (promised.1.1.1.1.1.1.1.1.1.1.1.1.1.0.1 s)
by_own_reader T.EphemerisGlo s = sym (promised.1.1.1.1.1.1.1.1.1.1.1.1.1.1.0.1 s)
by_own_reader T.Iono s = sym (promised.1.1.1.1.1.1.1.1.1.1.1.1.1.1.1.0.1 s)
by_own_reader T.SvConfigurationGps s = sym (promised.1.1.1.1.1.1.1.1.1.1.1.1.1.1.1.1.0.1 s)
by_own_reader T.GroupDelay s = sym (promised.1.1.1.1.1.1.1.1.1.1.1.1.1.1.1.1.1.0.1 s)
by_own_reader T.SettingsSave s = sym (promised.1.1.1.1.1.1.1.1.1.1.1.1.1.1.1.1.1.1.0.1 s)
by_own_reader T.ReadByIndexDone s = sym (promised.1.1.1.1.1.1.1.1.1.1.1.1.1.1.1.1.1.1.1.0.1 s)
by_own_reader T.ReadByIndexReq s = sym (promised.1.1.1.1.1.1.1.1.1.1.1.1.1.1.1.1.1.1.1.1.0.1 s)
by_own_reader T.Startup s = sym (promised.1.1.1.1.1.1.1.1.1.1.1.1.1.1.1.1.1.1.1.1.1.0.1 s)
by_own_reader T.Heartbeat s = sym (promised.1.1.1.1.1.1.1.1.1.1.1.1.1.1.1.1.1.1.1.1.1.1.0.1 s)
by_own_reader T.Log s = sym (log_read s)
