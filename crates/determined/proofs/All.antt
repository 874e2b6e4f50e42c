-- Every public function's contract determines what a call of it leaves.
use mathlib.Core.Path.{◌≡◌, refl}
use seplogic.Ra.Ura.{Ura}
use base.Logic.{SProp, emp, id⊢}
use base.Fml.{Lft}
use prog.Memory.{Memory}
use prog.Routine.{Routine}
use types.Logic.{Logic}
use contract.BorrowLft.{◌⊑◌, ⊑_static}
use contract.Lifetimes.{Lfts}
use contract.Monad.{Fun}
use mir.Syntax.{Dict}
use denote.RattleType.{RattleType}
use denote.Triple.Clauses.{Lasts}
use Rattle.std.specs.Prelude.{Result, Ok, Err}
use Rattle.refusals.specs.declared.Refusal.{Refusal}
use Rattle.refusals.specs.contracts.code as code
use Rattle.frame_writer.specs.declared.FixedMessage as FixedMessage
use Rattle.determined.proofs.Public as public
use Rattle.determined.proofs.Determining as by
use Rattle.determined.proofs.Said as said

ruleset determinations = (id⊢, by.plain, by.stored, by.both, by.three, by.plain_stored, by.plain_stored_stored, by.answered, by.answered_stored, by.numbered, by.numbered_stored, by.numbered_stored_stored, said.reader, said.stepped, said.roster, said.fed, said.fed_by_value, said.outcome, said.sought, said.collated, said.found, said.ended)

-- what was handed over whole leaves nothing to be seen
spent : (T : RattleType) (d : Dict) (κs : Lfts 1) (r : Result T.Denot Refusal) (v w : Lasts (code.ended T d) κs (r, tt)) → v.0 ≡ w.0
spent T d κs (Ok x) v w = refl
spent T d κs (Err e) v w = refl

module _ {M : Type 1} {𝓤 : Ura M} (𝓛 : Logic 𝓤) (mem : Memory → SProp 𝓤) (run : Routine → Fun 𝓤) where
  pub refusals : public.Refusals 𝓛 mem run
  refusals =
      record {
        number = search determinations;
        code = λ T d. record { asks_lifetimes = λ κs a within. (tt, λ g. by.held 𝓤 within (id⊢ 𝓤 (emp 𝓤))); one_end = λ k g. by.plain_beside 𝓤 (spent T d k.lives k.inputs.0 k.one_last k.other_last) };
      }

  -- values of any type, and of each
  pub wire : public.Wire 𝓛 mem run
  wire =
      record {
        read = λ S g d. record { asks_lifetimes = λ κs a within. (tt, λ g. by.held 𝓤 within (id⊢ 𝓤 (emp 𝓤))); one_end = search determinations };
        store = λ S g d. record { asks_lifetimes = λ κs a within. (tt, λ g. by.held 𝓤 within (id⊢ 𝓤 (emp 𝓤))); one_end = λ k g. by.beside_stored 𝓤 refl };
        flag = search determinations;
        room = search determinations;
        of_bits = search determinations;
        bits = search determinations;
        store_bytes = search determinations;
        read_u8 = search determinations;
        read_u16 = search determinations;
        read_u32 = search determinations;
        read_u64 = search determinations;
        read_s16 = search determinations;
        read_s32 = search determinations;
        read_double = search determinations;
        store_u8 = search determinations;
        store_u16 = search determinations;
        store_u32 = search determinations;
        store_u64 = search determinations;
        store_s16 = search determinations;
        store_s32 = search determinations;
        store_double = search determinations;
      }

  pub padded : public.Padded 𝓛 mem run
  padded = search determinations

  pub text : public.Text 𝓛 mem run
  text = search determinations

  pub crc : public.Crc 𝓛 mem run
  crc = search determinations

  pub formats : public.Formats 𝓛 mem run
  formats = search determinations

  pub frames : public.Frames 𝓛 mem run
  frames = search determinations

  pub senders : public.Senders 𝓛 mem run
  senders = search determinations

  pub frame_writer : public.FrameWriter 𝓛 mem run
  frame_writer =
      record {
        plan = search determinations;
        seal = search determinations;
        write_frame = search determinations;
        hand_on = search determinations;
        read_message = λ T R g d c e. record { asks_lifetimes = λ κs a within. (tt, λ g. by.held 𝓤 within.0 (by.held 𝓤 within.1 (id⊢ 𝓤 (emp 𝓤)))); one_end = search determinations };
        write_message = λ T R g d c e. record { asks_lifetimes = λ κs a within. (tt, λ g. by.held 𝓤 within.0 (by.held 𝓤 within.1 (id⊢ 𝓤 (emp 𝓤)))); one_end = search determinations };
        take = λ T R g d c e. record { asks_lifetimes = λ κs a within. (tt, λ g. by.held 𝓤 within.0 (by.held 𝓤 within.1 (id⊢ 𝓤 (emp 𝓤)))); one_end = search determinations };
        put = λ T R g d c e. record { asks_lifetimes = λ κs a within. (tt, λ g. by.held 𝓤 within.0 (by.held 𝓤 within.1 (id⊢ 𝓤 (emp 𝓤)))); one_end = search determinations };
        allowed = λ T R g d c e. record { asks_lifetimes = λ κs a within. (tt, λ g. by.held 𝓤 within.0 (by.held 𝓤 within.1 (id⊢ 𝓤 (emp 𝓤)))); one_end = search determinations };
      }

  -- a message whose types have no references: their lifetimes are none, and those of every call lie within none
  message : (T R : RattleType) (g : FixedMessage.Ghosts T.Denot R.Denot) → ((κ : Lft) → κ ⊑ T.lives) → ((κ : Lft) → κ ⊑ R.lives) → public.Message 𝓛 mem run T R g
  message T R g within record_within =
      record {
        read_message = λ d c e. by.free 𝓤 (frame_writer.read_message T R g d c e) (λ κs. (within κs.1.0, record_within κs.1.1.0));
        write_message = λ d c e. by.free 𝓤 (frame_writer.write_message T R g d c e) (λ κs. (within κs.1.0, record_within κs.1.1.0));
      }

  pub flags : public.Flags 𝓛 mem run
  flags = search determinations

  pub positions : public.Positions 𝓛 mem run
  positions = search (determinations, message, ⊑_static)

  pub time_and_dops : public.TimeAndDops 𝓛 mem run
  time_and_dops = search (determinations, message, ⊑_static)

  pub baselines : public.Baselines 𝓛 mem run
  baselines = search (determinations, message, ⊑_static)

  pub phases : public.Phases 𝓛 mem run
  phases = search determinations

  pub observation : public.Observation 𝓛 mem run
  observation = search determinations

  pub obs_writer : public.ObsWriter 𝓛 mem run
  obs_writer = search determinations

  pub base_positions : public.BasePositions 𝓛 mem run
  base_positions = search (determinations, message, ⊑_static)

  pub parts : public.Parts 𝓛 mem run
  parts = search determinations

  pub orbits : public.Orbits 𝓛 mem run
  orbits = search (determinations, message, ⊑_static)

  pub gps_orbits : public.GpsOrbits 𝓛 mem run
  gps_orbits = search (determinations, message, ⊑_static)

  pub atmosphere : public.Atmosphere 𝓛 mem run
  atmosphere = search (determinations, message, ⊑_static)

  pub logs : public.Logs 𝓛 mem run
  logs = search determinations

  pub system : public.System 𝓛 mem run
  system = search (determinations, message, ⊑_static)

  pub obs_reader : public.ObsReader 𝓛 mem run
  obs_reader = search determinations

  pub payloads : public.Payloads 𝓛 mem run
  payloads = search determinations

  pub readings : public.Readings 𝓛 mem run
  readings = search determinations

  pub row_reader : public.RowReader 𝓛 mem run
  row_reader = search determinations

  pub row_writer : public.RowWriter 𝓛 mem run
  row_writer = search determinations

  pub packets : public.Packets 𝓛 mem run
  packets = search determinations

  pub runs : public.Runs 𝓛 mem run
  runs = search determinations

  pub groups : public.Groups 𝓛 mem run
  groups = search determinations

  pub epochs : public.Epochs 𝓛 mem run
  epochs = search determinations

  pub captures : public.Captures 𝓛 mem run
  captures = search determinations

  pub enlisting : public.Enlisting 𝓛 mem run
  enlisting = search determinations

  pub lines : public.Lines 𝓛 mem run
  lines = search determinations

  pub listing : public.Listing 𝓛 mem run
  listing = search determinations

  pub frame_rows : public.FrameRows 𝓛 mem run
  frame_rows = search determinations

  pub flag_numbers : public.FlagNumbers 𝓛 mem run
  flag_numbers = search determinations

  pub index : public.Index 𝓛 mem run
  index = search determinations

  pub lent_index : public.LentIndex 𝓛 mem run
  lent_index = search determinations

  pub places : public.Places 𝓛 mem run
  places = search determinations

  pub states : public.States 𝓛 mem run
  states = search determinations

  pub exports : public.Exports 𝓛 mem run
  exports = search determinations

  pub linked_index : public.LinkedIndex 𝓛 mem run
  linked_index = search determinations
