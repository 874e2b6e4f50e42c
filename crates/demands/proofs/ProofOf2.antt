-- Demand 2 holds, all of it by citations.
use mathlib.Core.Path.{◌≡◌, refl, sym, ap, ap₂, ◌∙◌, subst}
use mathlib.Core.List.{List, [], ◌∷◌}
use Prim.Native.Nat.{ℕ, ◌<◌}
use native.Mathlib.Omega.{arith}
use lib.ListN.{length, get_or}
use Rattle.frames.specs.Reading.{closed_steps, Tiled, counts_of}
use borrow.Author.Tests.{le-leb, lt-leb, eq-eqb, ne_eqb}
use Rattle.frames.specs.Frame.{Content}
use Rattle.observation.specs.Edition.{is_obs}
use Rattle.enlisting.specs.FirstEight.{obs_senders}
use Rattle.frames.specs.Decides.{Decides}
use Rattle.frames.proofs.Steps.{only, decided}
use Rattle.frames.proofs.Frames.{found_bytes}
use Rattle.frames.proofs.Tiling.{closed_tiled, only_closed, open_closed, each_once, adds_up}
use Rattle.senders.proofs.Carrying.{carries}
use Rattle.frame_writer.proofs.WrittenPlan.{fits}
use Rattle.frame_writer.proofs.WrittenRead.{reads_back_at, framed_reads_back, framed_payload_back}
use Rattle.frame_writer.proofs.WrittenStream.{closed_stream, stream_payloads}
use Rattle.obs_writer.proofs.ObsThrough.{obs_faithful}
use lib.IntN.{ℤ, pos, negsuc}
use Rattle.refusals.specs.Refusals.{given}
use Rattle.refusals.proofs.Ordered.{exactly_all}
use Rattle.phases.specs.Phase.{phase_of, parts_of, reading_phase, read_phase}
use Rattle.phases.specs.declared.phase.Phase.{Phase}
use Rattle.phases.proofs.Phases.{phase_parts, parts_phase}
use Rattle.logs.proofs.Logs.{log_faithful}
use Rattle.obs_reader.proofs.HandedOut.{whole_walk}
use Rattle.obs_reader.proofs.Readers.{asked_times_lem}
use Rattle.payloads.proofs.Entries.{promised, obs_read, log_read}
use Rattle.packets.proofs.Recognitions.{formed}
use Rattle.groups.proofs.Words.{in_words}
use Rattle.groups.proofs.WholeGroups.{whole_epoch, copy_refused}
use Rattle.in_order.proofs.Meeting.{in_order}
use Rattle.epochs.specs.Epoch.{after, reports_of, Epochs, contents_of}
use Rattle.epochs.specs.declared.collating.Report.{Report}
use Rattle.epochs.proofs.Making.{seated}
use Rattle.epochs.proofs.Collations.{epochs_in, only_epochs, epoch_outcome, epoch_small, one_epoch, came_to_lem}
use Rattle.epochs.proofs.Copies.{copy_outcome}
use Rattle.epochs.proofs.Arrivals.{in_any_order}
use Rattle.captures.proofs.Captures.{collated_number, collated_state, collated_idle, collated_counts}
use Rattle.text.proofs.Decimals.{one_digit, more_digits}
use Rattle.enlisting.proofs.Growing.{as_of_the_first}
use Rattle.enlisting.proofs.EightSenders.{first_sent, first_all, first_accepted}
use Rattle.listing.proofs.EpochLines.{text_lines, text_alone}
use Rattle.frames_told.specs.Counting.{frame_bytes_in, junks_in}
use Rattle.frames_told.proofs.Tallies.{counts_are_steps}
use Rattle.demands.specs.Demand2.{shows, FramesFound, EveryByteCounted, ReadAndWritten, EpochsReported, Listed, Demand2}
use Rattle.demands.proofs.AllHanded.{handed_out}
use Rattle.demands.proofs.Room.{room_enough}
use Rattle.demands.proofs.Packets.{well_formed, report_numbers}
use Rattle.demands.proofs.LinesShown.{shown_line}
use Rattle.demands.proofs.Shorts.{needs_more}

few_parts : (z : ℤ) → (parts_of z).l_f < 256
few_parts (pos n) = omega arith
few_parts (negsuc n) = omega arith

phase_read : (z : ℤ) (p : Phase) → read_phase z ≡ given p → (phase_of p ≡ z) × (p.l_f < 256)
unfolding read_phase
phase_read z p e =
    let same : parts_of z ≡ p = ((exactly_all (parts_of z) (reading_phase z).tests p).0 e).1 in
    (ap phase_of (sym same) ∙ phase_parts z, subst (λ (p : Phase). p.l_f < 256) same (few_parts z))

obs_senders_lem : (x : Content) (xs : List Content)
    → (x.kind ≡ 0x0049 → obs_senders (x ∷ xs) ≡ x.sender ∷ obs_senders xs) × ((x.kind ≡ 0x0049 → ⊥) → obs_senders (x ∷ xs) ≡ obs_senders xs)
unfolding obs_senders is_obs
obs_senders_lem x xs = (λ e. rw (eq-eqb x.kind 0x0049 e), λ e. rw (ne_eqb x.kind 0x0049 e))

frames_found : FramesFound
frames_found = record {
  five_lines = λ s p x. (λ e. subst (Decides s p) e (decided s p), λ l. sym (only s p l));
  needs_more = needs_more;
  closed_reading = λ s xs. (only_closed s, λ e. subst (Tiled s 0 (length s)) (sym e) (closed_tiled s));
  open_reading = open_closed;
  handed_out = handed_out;
  found_formed = λ s p f bytes e. found_bytes s p e bytes;
  formed_found = λ m before rest h. reads_back_at m.kind m.sender m.payload rest h.0 h.1 h.2 before;
  written_found = λ ms h. (closed_stream ms h, stream_payloads ms h);
}

every_byte_counted : EveryByteCounted
every_byte_counted = record {
  every_byte_once = each_once;
  counts_are_steps = counts_are_steps;
  counts_add_up = λ s. let xs = closed_steps s in omega (arith, adds_up s, counts_are_steps.framed xs, counts_are_steps.junk xs, counts_are_steps.bad xs, counts_are_steps.short xs);
}

read_and_written : ReadAndWritten
read_and_written = record {
  messages = promised;
  obs = obs_faithful;
  obs_read = obs_read;
  log = log_faithful;
  log_read = log_read;
  senders = carries;
  any_frame = λ kind w payload buf n k h g.
      let room = fits (length payload) (length buf) g in
      (framed_reads_back kind w payload buf k h room.0 room.1, framed_payload_back kind w payload buf k h room.0 room.1);
  obs_asked = asked_times_lem;
  obs_walk = whole_walk;
  phase_read = phase_read;
  phase_of_lem = λ p. refl;
  phase = (phase_parts, parts_phase);
}

epochs_reported : EpochsReported
unfolding after
epochs_reported = record {
  reported_exactly = λ roster ok. epoch_outcome roster (seated roster ok);
  well_formed = well_formed;
  report_numbers = report_numbers;
  report_sum = λ roster xs x e w. ap (λ (r : Report). r.observations) w.report;
  formed = λ x p. formed x.kind x.payload;
  in_words = in_words;
  copies = λ roster ok. copy_outcome roster (seated roster ok);
  step_ends = whole_epoch;
  step_copies = copy_refused;
  any_order = λ roster ok. in_any_order roster (seated roster ok);
  in_order = in_order;
  one_at_most = λ roster ok xs x d e v w. one_epoch roster (seated roster ok) v w;
  at_most_225 = λ roster ok. epoch_small roster (seated roster ok);
  capture_reported = λ roster ok s es.
      let came = came_to_lem roster (seated roster ok) [] (contents_of s) in
      (λ w. only_epochs w _ came, λ e. subst (Epochs roster [] (contents_of s)) (sym e) (epochs_in [] (contents_of s) _ came));
  capture_number = λ roster s. collated_number s roster;
  capture_others = λ roster ok s. collated_idle s roster ok;
  capture_end = λ roster ok s. collated_state s roster ok;
  capture_counted = λ roster ok s es small w i below.
      collated_counts s roster ok small i below
      ∙ ap (λ (rs : List Report). length (reports_of (get_or roster i 0) rs)) (sym (only_epochs w _ (came_to_lem roster (seated roster ok) [] (contents_of s))));
}

listing : Listed
listing = record {
  roster = λ s. refl;
  obs_senders_lem = obs_senders_lem;
  roster_names = λ s sender. (first_sent (contents_of s) sender, first_all (contents_of s) sender);
  roster_grows = as_of_the_first;
  roster_taken = λ s. first_accepted (contents_of s);
  lines = text_lines;
  lines_alone = text_alone;
  frame_line_lem = λ s f. shown_line 0x46 _;
  epoch_line_lem = λ e. shown_line 0x45 _;
  totals_line_lem = λ s.
      let xs = closed_steps s in
      shown_line 0x54 _
      ∙ ap₂ (λ (a b : ℕ). 0x54 ∷ shows (length s ∷ a ∷ b ∷ (counts_of xs).bad ∷ (counts_of xs).short ∷ [])) (counts_are_steps.framed xs) (counts_are_steps.junk xs)
      ∙ ap₂ (λ (a b : ℕ). 0x54 ∷ shows (length s ∷ frame_bytes_in xs ∷ junks_in xs ∷ a ∷ b ∷ [])) (counts_are_steps.bad xs) (counts_are_steps.short xs);
  one_digit = one_digit;
  more_digits = more_digits;
  room = room_enough;
  printed = λ s h. rw (le-leb (length s) 65536 h);
  over_long = λ s h. (rw (lt-leb (length s) 65536 h)) ∙ shown_line 0x52 (11 ∷ []);
}

pub demand_2 : Demand2
demand_2 = record { frames_found = frames_found; every_byte_counted = every_byte_counted; read_and_written = read_and_written; epochs_reported = epochs_reported; listing = listing }
