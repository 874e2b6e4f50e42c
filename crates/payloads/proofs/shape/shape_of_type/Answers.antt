-- `payloads::shape::shape_of_type` meets its contract: each message by its entry.
use mathlib.Core.Path.{◌≡◌, sym, ap, ◌∙◌}
use Rattle.payloads.specs.Types.{type_number}
use Rattle.payloads.specs.Payloads.{entry_for, shape_for}
use Rattle.payloads.specs.declared.kind.MessageType.{MessageType}
use Rattle.payloads.proofs.shape.shape_of_type.Goals as goal

met : {t u : MessageType} → t ≡ u → shape_for (type_number u) ≡ shape_for (type_number t)
met e = sym (ap (λ (t : MessageType). shape_for (type_number t)) e)

pub returns-in-Obs : goal.returns-in-Obs
unfolding entry_for
returns-in-Obs c = c.digits.ensures ∙ met c.in-Obs.is

pub returns-in-GpsTime : goal.returns-in-GpsTime
unfolding entry_for
returns-in-GpsTime c = c.digits-in-GpsTime.ensures ∙ met c.in-GpsTime.is

pub returns-in-Dops : goal.returns-in-Dops
unfolding entry_for
returns-in-Dops c = c.digits-in-Dops.ensures ∙ met c.in-Dops.is

pub returns-in-PosEcef : goal.returns-in-PosEcef
unfolding entry_for
returns-in-PosEcef c = c.digits-in-PosEcef.ensures ∙ met c.in-PosEcef.is

pub returns-in-PosLlh : goal.returns-in-PosLlh
unfolding entry_for
returns-in-PosLlh c = c.digits-in-PosLlh.ensures ∙ met c.in-PosLlh.is

pub returns-in-BaselineEcef : goal.returns-in-BaselineEcef
unfolding entry_for
returns-in-BaselineEcef c = c.digits-in-BaselineEcef.ensures ∙ met c.in-BaselineEcef.is

pub returns-in-VelEcef : goal.returns-in-VelEcef
unfolding entry_for
returns-in-VelEcef c = c.digits-in-VelEcef.ensures ∙ met c.in-VelEcef.is

pub returns-in-BaselineNed : goal.returns-in-BaselineNed
unfolding entry_for
returns-in-BaselineNed c = c.digits-in-BaselineNed.ensures ∙ met c.in-BaselineNed.is

pub returns-in-VelNed : goal.returns-in-VelNed
unfolding entry_for
returns-in-VelNed c = c.digits-in-VelNed.ensures ∙ met c.in-VelNed.is

pub returns-in-BaselineHeading : goal.returns-in-BaselineHeading
unfolding entry_for
returns-in-BaselineHeading c = c.digits-in-BaselineHeading.ensures ∙ met c.in-BaselineHeading.is

pub returns-in-BasePosLlh : goal.returns-in-BasePosLlh
unfolding entry_for
returns-in-BasePosLlh c = c.digits-in-BasePosLlh.ensures ∙ met c.in-BasePosLlh.is

pub returns-in-BasePosEcef : goal.returns-in-BasePosEcef
unfolding entry_for
returns-in-BasePosEcef c = c.digits-in-BasePosEcef.ensures ∙ met c.in-BasePosEcef.is

pub returns-in-EphemerisGps : goal.returns-in-EphemerisGps
unfolding entry_for
returns-in-EphemerisGps c = c.digits-in-EphemerisGps.ensures ∙ met c.in-EphemerisGps.is

pub returns-in-EphemerisSbas : goal.returns-in-EphemerisSbas
unfolding entry_for
returns-in-EphemerisSbas c = c.digits-in-EphemerisSbas.ensures ∙ met c.in-EphemerisSbas.is

pub returns-in-EphemerisGlo : goal.returns-in-EphemerisGlo
unfolding entry_for
returns-in-EphemerisGlo c = c.digits-in-EphemerisGlo.ensures ∙ met c.in-EphemerisGlo.is

pub returns-in-Iono : goal.returns-in-Iono
unfolding entry_for
returns-in-Iono c = c.digits-in-Iono.ensures ∙ met c.in-Iono.is

pub returns-in-SvConfigurationGps : goal.returns-in-SvConfigurationGps
unfolding entry_for
returns-in-SvConfigurationGps c = c.digits-in-SvConfigurationGps.ensures ∙ met c.in-SvConfigurationGps.is

pub returns-in-GroupDelay : goal.returns-in-GroupDelay
unfolding entry_for
returns-in-GroupDelay c = c.digits-in-GroupDelay.ensures ∙ met c.in-GroupDelay.is

pub returns-in-SettingsSave : goal.returns-in-SettingsSave
unfolding entry_for
returns-in-SettingsSave c = c.digits-in-SettingsSave.ensures ∙ met c.in-SettingsSave.is

pub returns-in-ReadByIndexDone : goal.returns-in-ReadByIndexDone
unfolding entry_for
returns-in-ReadByIndexDone c = c.digits-in-ReadByIndexDone.ensures ∙ met c.in-ReadByIndexDone.is

pub returns-in-ReadByIndexReq : goal.returns-in-ReadByIndexReq
unfolding entry_for
returns-in-ReadByIndexReq c = c.digits-in-ReadByIndexReq.ensures ∙ met c.in-ReadByIndexReq.is

pub returns-in-Startup : goal.returns-in-Startup
unfolding entry_for
returns-in-Startup c = c.digits-in-Startup.ensures ∙ met c.in-Startup.is

pub returns-in-Heartbeat : goal.returns-in-Heartbeat
unfolding entry_for
returns-in-Heartbeat c = c.digits-in-Heartbeat.ensures ∙ met c.in-Heartbeat.is

pub returns-in-Log : goal.returns-in-Log
unfolding entry_for
returns-in-Log c = c.digits-in-Log.ensures ∙ met c.in-Log.is
