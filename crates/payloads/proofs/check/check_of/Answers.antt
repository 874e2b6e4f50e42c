-- `payloads::check::check_of` meets its contract: each message by its row.
use mathlib.Core.Path.{◌≡◌, sym, ap}
use Rattle.payloads.specs.Types.{type_number}
use Rattle.payloads.specs.Inner.{check_in, check_for}
use Rattle.payloads.specs.declared.kind.MessageType.{MessageType}
use Rattle.payloads.proofs.check.check_of.Goals as goal

met : {t u : MessageType} → t ≡ u → check_for (type_number u) ≡ check_for (type_number t)
met e = sym (ap (λ (t : MessageType). check_for (type_number t)) e)

pub returns-in-Obs : goal.returns-in-Obs
unfolding check_in
returns-in-Obs c = met c.in-Obs.is

pub returns-in-GpsTime : goal.returns-in-GpsTime
unfolding check_in
returns-in-GpsTime c = met c.in-GpsTime.is

pub returns-in-Dops : goal.returns-in-Dops
unfolding check_in
returns-in-Dops c = met c.in-Dops.is

pub returns-in-PosEcef : goal.returns-in-PosEcef
unfolding check_in
returns-in-PosEcef c = met c.in-PosEcef.is

pub returns-in-PosLlh : goal.returns-in-PosLlh
unfolding check_in
returns-in-PosLlh c = met c.in-PosLlh.is

pub returns-in-BaselineEcef : goal.returns-in-BaselineEcef
unfolding check_in
returns-in-BaselineEcef c = met c.in-BaselineEcef.is

pub returns-in-VelEcef : goal.returns-in-VelEcef
unfolding check_in
returns-in-VelEcef c = met c.in-VelEcef.is

pub returns-in-BaselineNed : goal.returns-in-BaselineNed
unfolding check_in
returns-in-BaselineNed c = met c.in-BaselineNed.is

pub returns-in-VelNed : goal.returns-in-VelNed
unfolding check_in
returns-in-VelNed c = met c.in-VelNed.is

pub returns-in-BaselineHeading : goal.returns-in-BaselineHeading
unfolding check_in
returns-in-BaselineHeading c = met c.in-BaselineHeading.is

pub returns-in-BasePosLlh : goal.returns-in-BasePosLlh
unfolding check_in
returns-in-BasePosLlh c = met c.in-BasePosLlh.is

pub returns-in-BasePosEcef : goal.returns-in-BasePosEcef
unfolding check_in
returns-in-BasePosEcef c = met c.in-BasePosEcef.is

pub returns-in-EphemerisGps : goal.returns-in-EphemerisGps
unfolding check_in
returns-in-EphemerisGps c = met c.in-EphemerisGps.is

pub returns-in-EphemerisSbas : goal.returns-in-EphemerisSbas
unfolding check_in
returns-in-EphemerisSbas c = met c.in-EphemerisSbas.is

pub returns-in-EphemerisGlo : goal.returns-in-EphemerisGlo
unfolding check_in
returns-in-EphemerisGlo c = met c.in-EphemerisGlo.is

pub returns-in-Iono : goal.returns-in-Iono
unfolding check_in
returns-in-Iono c = met c.in-Iono.is

pub returns-in-SvConfigurationGps : goal.returns-in-SvConfigurationGps
unfolding check_in
returns-in-SvConfigurationGps c = met c.in-SvConfigurationGps.is

pub returns-in-GroupDelay : goal.returns-in-GroupDelay
unfolding check_in
returns-in-GroupDelay c = met c.in-GroupDelay.is

pub returns-in-SettingsSave : goal.returns-in-SettingsSave
unfolding check_in
returns-in-SettingsSave c = met c.in-SettingsSave.is

pub returns-in-ReadByIndexDone : goal.returns-in-ReadByIndexDone
unfolding check_in
returns-in-ReadByIndexDone c = met c.in-ReadByIndexDone.is

pub returns-in-ReadByIndexReq : goal.returns-in-ReadByIndexReq
unfolding check_in
returns-in-ReadByIndexReq c = met c.in-ReadByIndexReq.is

pub returns-in-Startup : goal.returns-in-Startup
unfolding check_in
returns-in-Startup c = met c.in-Startup.is

pub returns-in-Heartbeat : goal.returns-in-Heartbeat
unfolding check_in
returns-in-Heartbeat c = met c.in-Heartbeat.is

pub returns-in-Log : goal.returns-in-Log
unfolding check_in
returns-in-Log c = met c.in-Log.is
