-- Captures read, collated and listed, observations stepped through, phases and flags: each call by its own contract.
use Rattle.std.specs.Prelude.{true, false, Option, Some, None, Result, Ok, Err, List, [], ◌++◌, ℕ, ◌+◌, ◌%◌, length, take, drop}
use seplogic.Ra.Ura.{Ura}
use base.Logic.{SProp}
use prog.Memory.{Memory}
use prog.Routine.{Routine}
use types.Logic.{Logic}
use contract.Monad.{Fun}
use Rattle.wire.specs.Number.{flag_at}
use Rattle.refusals.specs.Refusals.{reply}
use Rattle.refusals.specs.declared.Refusal.{Refusal}
use Rattle.crc.specs.Crc.{crc_from}
use Rattle.frames.specs.Step.{step_at}
use Rattle.frames.specs.Reading.{closed_steps, counts_of}
use Rattle.frames.specs.Cursors.{next_of, reached_in}
use Rattle.flags.specs.Flags.{chosen}
use Rattle.flags.specs.declared.flags.Fix.TheVariants.{SinglePoint, Float, Fixed, Reserved}
use Rattle.phases.specs.Phase.{phase_of, reading_phase}
use Rattle.observation.specs.Obs.{one_of_frame}
use Rattle.obs_reader.specs.Reader.{moved_by, asked}
use Rattle.packets.specs.Packet.{packet_in, shape, numbering}
use Rattle.groups.specs.Group.{stepping}
use Rattle.epochs.specs.Collator.{rostering, placing, outcome, fed_frame, made}
use Rattle.epochs.specs.Listed.{listed}
use Rattle.epochs.specs.Happened.{Happened}
use Rattle.epochs.specs.declared.collating.Report.{Report}
use Rattle.captures.specs.Capture.{collated}
use Rattle.captures.specs.Collated as Collated
use Rattle.captures.specs.declared.capturing.Collated as code
use Rattle.enlisting.specs.Enlisting.{new_seat, enlisted_to}
use Rattle.listing.specs.Listing.{text_of, listing}
use Rattle.calls.specs.Replies.{refusal_of, result_of, told_by, hands_back, puts}
use Rattle.calls.specs.Gives.{Gives, GivesAs}
use Rattle.crc.specs.contracts as crc
use Rattle.frames.specs.contracts as frames
use Rattle.flags.specs.contracts as flags
use Rattle.phases.specs.contracts as phases
use Rattle.system.specs.contracts as system
use Rattle.obs_reader.specs.contracts as obs_reader
use Rattle.packets.specs.contracts as packets
use Rattle.groups.specs.contracts as groups
use Rattle.epochs.specs.contracts as epochs
use Rattle.captures.specs.contracts as captures
use Rattle.enlisting.specs.contracts as enlisting
use Rattle.listing.specs.contracts as listing

-- what a frame comes to, as feeding it answers; and an epoch, if it is one
abbrev pub handed : Happened → Result (Option Report) Refusal
handed (Happened.Refused n) = Err (refusal_of n)
handed Happened.Taken = Ok None
handed (Happened.Epoch r) = Ok (Some r)

abbrev pub reported : Happened → Option Report
reported (Happened.Refused n) = None
reported Happened.Taken = None
reported (Happened.Epoch r) = Some r

-- a whole capture: the collator and how many epochs each seat had, or why its roster is refused
abbrev pub collated_as : Collated.Collated → Result code.Collated Refusal
collated_as t = told_by (λ n. record { collator = t.collator; reports = t.reports }) t.number

-- at every model of the logic, as every contract is stated
module _ {M : Type 1} {𝓤 : Ura M} (𝓛 : Logic 𝓤) (mem : Memory → SProp 𝓤) (run : Routine → Fun 𝓤) where
  -- a capture read: a cursor made closed or open stands at 0 and has counted nothing
  pub record Frames : Type 1 where
    pub closed : Gives 𝓤 frames.cursor.Cursor.closed.ended (frames.cursor.Cursor.closed.clauses 𝓛 mem run)
        (λ κs. (record { at = 0; opened = false; framed = 0; junk = 0; bad = 0; short = 0 }, tt))
    pub opened : Gives 𝓤 frames.cursor.Cursor.opened.ended (frames.cursor.Cursor.opened.clauses 𝓛 mem run)
        (λ κs. (record { at = 0; opened = true; framed = 0; junk = 0; bad = 0; short = 0 }, tt))
    pub next : Gives 𝓤 frames.cursor.Cursor.next.ended (frames.cursor.Cursor.next.clauses 𝓛 mem run) (λ κs c s. (next_of s.now c, tt))
    pub reach : Gives 𝓤 frames.cursor.Cursor.reach.ended (frames.cursor.Cursor.reach.clauses 𝓛 mem run) (λ κs c s. (reached_in (next_of s.now c), tt))
    pub counts : Gives 𝓤 frames.cursor.Cursor.counts.ended (frames.cursor.Cursor.counts.clauses 𝓛 mem run)
        (λ κs c. (record { framed = c.framed; junk = c.junk; bad = c.bad; short = c.short }, tt))
    pub totals : Gives 𝓤 frames.totals.ended (frames.totals.clauses 𝓛 mem run) (λ κs s. (counts_of (closed_steps s.now), tt))
    pub step_at : Gives 𝓤 frames.step_at.ended (frames.step_at.clauses 𝓛 mem run) (λ κs s at. (step_at s.now at, tt))
    -- "from p + 6 for N bytes"
    pub payload : GivesAs 𝓤 frames.payload.ended (frames.payload.clauses 𝓛 mem run) (λ κs. List ℕ) (λ κs r. r.now)
        (λ κs s f. (take f.length (drop (f.at + 6) s.now), tt))
    pub frame_crc : Gives 𝓤 frames.frame_crc.ended (frames.frame_crc.clauses 𝓛 mem run) (λ κs header payload. (crc_from 0 (drop 1 header.now ++ payload.now), tt))
    pub crc_of : Gives 𝓤 crc.crc.ended (crc.crc.clauses 𝓛 mem run) (λ κs start bytes. (crc_from start bytes.now, tt))
    pub crc_apart : Gives 𝓤 crc.crc_apart.ended (crc.crc_apart.clauses 𝓛 mem run) (λ κs start first second. (crc_from start (first.now ++ second.now), tt))

  -- a collator made and fed: the frame is that of the sender, type and payload handed in; a whole capture; a roster that grows; the listing
  pub record Collators : Type 1 where
    pub empty : Gives 𝓤 epochs.collating.Collator.empty.ended (epochs.collating.Collator.empty.clauses 𝓛 mem run) (λ κs. ((made []).collator, tt))
    pub make : Gives 𝓤 epochs.collating.Collator.made.ended (epochs.collating.Collator.made.clauses 𝓛 mem run) (λ κs roster. hands_back (rostering roster.now))
    -- of a refused roster too: the collator that refuses every frame and never moves (demand 1's `refused_roster`)
    pub made_or_empty : Gives 𝓤 epochs.collating.Collator.made_or_empty.ended (epochs.collating.Collator.made_or_empty.clauses 𝓛 mem run)
        (λ κs roster. ((made roster.now).collator, tt))
    pub feed : Gives 𝓤 epochs.collating.Collator.feed.ended (epochs.collating.Collator.feed.clauses 𝓛 mem run)
        (λ κs c kind sender payload. let f = fed_frame c.now (record { kind = kind; sender = sender; payload = payload.now }) in (handed f.happened, (f.collator, tt)))
    -- the same of a collator by value, handed back with what came of the frame
    pub fed : Gives 𝓤 epochs.collating.Collator.fed.ended (epochs.collating.Collator.fed.clauses 𝓛 mem run)
        (λ κs c kind sender payload. let f = fed_frame c (record { kind = kind; sender = sender; payload = payload.now }) in (record { collator = f.collator; happened = handed f.happened }, tt))
    -- a frame recognised for its sender's place, by the roster; and by itself, in two steps
    pub recognise : Gives 𝓤 epochs.seating.Roster.recognise.ended (epochs.seating.Roster.recognise.clauses 𝓛 mem run)
        (λ κs roster kind sender payload. hands_back (placing (listed roster) (record { kind = kind; sender = sender; payload = payload.now })))
    pub read_packet : Gives 𝓤 packets.read_packet.ended (packets.read_packet.clauses 𝓛 mem run)
        (λ κs kind s. hands_back (record { tests = shape kind s.now; value = packet_in s.now }))
    pub numbered : Gives 𝓤 packets.numbered.ended (packets.numbered.clauses 𝓛 mem run) (λ κs p. hands_back (record { tests = numbering p; value = p }))
    -- and the packet at that place: 47 for a counter that has come already
    pub place_step : Gives 𝓤 groups.step.ended (groups.step.clauses 𝓛 mem run) (λ κs group p. hands_back (stepping group p))
    pub outcome : Gives 𝓤 epochs.outcome.ended (epochs.outcome.clauses 𝓛 mem run) (λ κs sender p ended. (reported (outcome sender p ended), tt))
    pub new_seat : Gives 𝓤 enlisting.new_seat.ended (enlisting.new_seat.clauses 𝓛 mem run) (λ κs roster sender. (new_seat roster.senders roster.count sender, tt))
    pub collate : Gives 𝓤 captures.collate.ended (captures.collate.clauses 𝓛 mem run) (λ κs s roster. (collated_as (collated s.now roster.now), tt))
    pub enlist : Gives 𝓤 enlisting.enlist.ended (enlisting.enlist.clauses 𝓛 mem run) (λ κs c kind sender. (tt, (enlisted_to c.now kind sender, tt)))
    pub list : Gives 𝓤 listing.list.ended (listing.list.clauses 𝓛 mem run) (λ κs s buf. puts (listing s.now (length buf.now)) (text_of s.now) buf.now)

  -- a reader that keeps the lent payload and its place
  pub record Observations : Type 1 where
    pub make : Gives 𝓤 obs_reader.ObsReader.made.ended (obs_reader.ObsReader.made.clauses 𝓛 mem run) (λ κs kind payload. (record { kind = kind; payload = payload; at = 0 }, tt))
    pub next : Gives 𝓤 obs_reader.ObsReader.next.ended (obs_reader.ObsReader.next.clauses 𝓛 mem run)
        (λ κs reader. let r = reader.now in (result_of (reply (one_of_frame r.kind r.payload.now r.at)), (asked r, tt)))
    pub step_from : Gives 𝓤 obs_reader.step_from.ended (obs_reader.step_from.clauses 𝓛 mem run)
        (λ κs kind payload at. let a = reply (one_of_frame kind payload.now at) in (record { answer = result_of a; at = at + moved_by a }, tt))

  -- phases, and flags by their bits
  pub record Told : Type 1 where
    pub carrier_phase : Gives 𝓤 phases.carrier_phase.ended (phases.carrier_phase.clauses 𝓛 mem run) (λ κs p. (phase_of p, tt))
    pub phase_parts : Gives 𝓤 phases.phase_parts.ended (phases.phase_parts.clauses 𝓛 mem run) (λ κs z. hands_back (reading_phase z))
    pub pos_ecef_fix : Gives 𝓤 flags.pos_ecef_fix.ended (flags.pos_ecef_fix.clauses 𝓛 mem run) (λ κs n. (chosen (n % 8) SinglePoint Float Fixed, tt))
    pub pos_llh_fix : Gives 𝓤 flags.pos_llh_fix.ended (flags.pos_llh_fix.clauses 𝓛 mem run) (λ κs n. (chosen (n % 8) SinglePoint Fixed Float, tt))
    pub baseline_fix : Gives 𝓤 flags.baseline_fix.ended (flags.baseline_fix.clauses 𝓛 mem run) (λ κs n. (chosen (n % 8) Float Fixed Reserved, tt))
    pub raim_available : Gives 𝓤 flags.raim_available.ended (flags.raim_available.clauses 𝓛 mem run) (λ κs n. (flag_at n 3, tt))
    pub raim_repaired : Gives 𝓤 flags.raim_repaired.ended (flags.raim_repaired.clauses 𝓛 mem run) (λ κs n. (flag_at n 4, tt))
    pub pos_llh_above_sea : Gives 𝓤 flags.pos_llh_above_sea.ended (flags.pos_llh_above_sea.clauses 𝓛 mem run) (λ κs n. (flag_at n 3, tt))
    pub pos_llh_raim_available : Gives 𝓤 flags.pos_llh_raim_available.ended (flags.pos_llh_raim_available.clauses 𝓛 mem run) (λ κs n. (flag_at n 4, tt))
    pub pos_llh_raim_repaired : Gives 𝓤 flags.pos_llh_raim_repaired.ended (flags.pos_llh_raim_repaired.clauses 𝓛 mem run) (λ κs n. (flag_at n 5, tt))
    pub system_error : Gives 𝓤 system.system_error.ended (system.system_error.clauses 𝓛 mem run) (λ κs n. (flag_at n 0, tt))
    pub io_error : Gives 𝓤 system.io_error.ended (system.io_error.clauses 𝓛 mem run) (λ κs n. (flag_at n 1, tt))
    pub nap_error : Gives 𝓤 system.nap_error.ended (system.nap_error.clauses 𝓛 mem run) (λ κs n. (flag_at n 2, tt))
    pub external_antenna : Gives 𝓤 system.external_antenna.ended (system.external_antenna.clauses 𝓛 mem run) (λ κs n. (flag_at n 31, tt))
