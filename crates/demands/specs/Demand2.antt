-- Demand 2: "Equal to the published protocol, reading and writing. The frames found are exactly those that specification 1.1 and our written
-- resume rule give; every byte of a complete capture is in one frame or counted as passed over under one reason; a record written reads back
-- bit for bit; an accepted payload written again gives the same bytes; an epoch is reported exactly when its packets stand as document 01 says,
-- once each." Sentence by sentence, and then document 01's section on `sbplist`.
use Rattle.std.specs.Prelude.{◌≡◌, Bool, true, ◌↔◌, ◌⊎◌, ℕ, ◌+◌, ◌*◌, ◌/◌, ◌%◌, ◌^◌, ◌≤◌, ◌<◌, ℤ, pos, ◌+ℤ◌, ◌*ℤ◌, length, get_or, take, drop, replicate, Some}
use mathlib.Core.List.{List, [], ◌∷◌, ◌++◌, map, flat_map}
use Rattle.wire.specs.Number.{Bytes, number_at}
use Rattle.refusals.specs.Refusals.{given, refused, reply}
use Rattle.frames.specs.Frame.{frame_bytes, Content, Sendable, AllSendable, frame_of, stream}
use Rattle.frames.specs.Step.{step_at, payload_in}
use Rattle.frames.specs.Reading.{Positioned, closed_steps, open_steps, Tiled, holding, before_short, frames_of}
use Rattle.senders.specs.Senders.{carried, HeldWriter}
use Rattle.senders.specs.Carries.{Carries}
use Rattle.senders.specs.declared.Writer.{Writer}
use Rattle.frame_writer.specs.Writer.{planned, with_frame, as_read, found_from}
use Rattle.frames.specs.Decides.{Decides}
use Rattle.frames.specs.declared.step.Frame.{Frame}
use Rattle.frames.specs.declared.step.Step.{Step}
use Rattle.frames.specs.declared.step.Step.TheVariants.{Short, Found}
use Rattle.observation.specs.Edition.{first}
use Rattle.observation.specs.Obs.{read_obs}
use Rattle.obs_writer.specs.ObsFaithful.{ObsFaithful}
use Rattle.phases.specs.Phase.{phase_of, parts_of, read_phase}
use Rattle.phases.specs.declared.phase.Phase.{Phase}
use Rattle.logs.specs.Log as system
use Rattle.logs.specs.Log.{read_log}
use Rattle.logs.specs.LogFaithful.{LogFaithful}
use Rattle.obs_reader.specs.Walk.{Walk, standing, asked_times, observations_in, past_them}
use Rattle.obs_reader.specs.declared.ObsReader.{ObsReader}
use Rattle.payloads.specs.Payloads.{answer_for, messages, Typed, Promised, AllOf}
use Rattle.payloads.specs.declared.Message.TheVariants as M
use Rattle.packets.specs.declared.packet.Packet.{Packet}
use Rattle.packets.specs.Packet.{Formed, AllFormed}
use Rattle.groups.specs.InWords.{is_copy, EpochEnds, InWords}
use Rattle.groups.specs.Group.{stepping, ended_of, left_open}
use Rattle.in_order.specs.InOrder.{InOrder}
use Rattle.epochs.specs.Search.{names}
use Rattle.epochs.specs.Collator.{fed_frame, made}
use Rattle.epochs.specs.Epoch.{own_packet, after, reports, reports_of, EndsEpoch, BringsCopy, Epochs, contents_of}
use Rattle.epochs.specs.Arrival.{InAnyOrder}
use Rattle.captures.specs.Capture.{collated}
use Rattle.epochs.specs.declared.collating.Report.{Report}
use Rattle.epochs.specs.Happened as H
use Rattle.text.specs.Decimal.{decimal}
use Rattle.enlisting.specs.FirstEight.{obs_senders, different, obs_senders_in, roster_in}
use Rattle.enlisting.specs.Enlisting.{AsOfTheFirst}
use Rattle.listing.specs.Listing.{frame_line, totals_line, text_of, list_answer, with_listing, output}
use Rattle.listing.specs.Words.{Lines}
use Rattle.lines.specs.Lines.{epoch_line}
use Rattle.frames_told.specs.Counting.{frame_bytes_in, junks_in, bads_in, shorts_in, CountsAreSteps}
use Rattle.demands.specs.Handed.{Handed}

-- "The frames found are exactly those that specification 1.1 and our written resume rule give"
pub record FramesFound : Type 0 where
  -- at every position the first of the five lines that holds decides
  pub five_lines : (s : List ℕ) (p : ℕ) (x : Step) → (step_at s p ≡ x) ↔ Decides s p x
  -- what a short needs is not there yet
  pub needs_more : (s : List ℕ) (p n : ℕ) → step_at s p ≡ Short n → length s < p + n
  -- closed reading goes from 0 to the end by the capture's own steps, each from where the one before ended, and no other steps do
  pub closed_reading : (s : List ℕ) (xs : List Positioned) → Tiled s 0 (length s) xs ↔ (xs ≡ closed_steps s)
  -- open reading is the same up to the first short
  pub open_reading : (s : List ℕ) → open_steps s ≡ before_short (closed_steps s)
  -- calls of `next` hand out the frames of those steps in order, and stop with the counts of these steps
  pub handed_out : (opened : Bool) (s : List ℕ) → length s < 2 ^ 64 → Handed opened s
  -- a frame that is found has specification 1.1's form, and what has that form is found where a reading comes to it
  pub found_formed : (s : List ℕ) (p : ℕ) (f : Frame) → Bytes s → step_at s p ≡ Found f
      → take (f.length + 8) (drop p s) ≡ frame_bytes f.kind f.sender (payload_in s f)
  pub formed_found : (m : Content) (before rest : List ℕ) → Sendable m → step_at (before ++ (frame_of m ++ rest)) (length before) ≡ Found (as_read (length before) m)
  -- frames written one after the other read back as these frames, with these payloads
  pub written_found : (ms : List Content) → AllSendable ms
      → (closed_steps (stream ms) ≡ found_from 0 ms)
      × (map (payload_in (stream ms)) (frames_of (closed_steps (stream ms))) ≡ map (λ (m : Content). m.payload) ms)

-- "every byte of a complete capture is in one frame or counted as passed over under one reason"
pub record EveryByteCounted : Type 0 where
  pub every_byte_once : (s : List ℕ) (i : ℕ) → i < length s → holding i (closed_steps s) ≡ 1
  -- "each count being that of the steps of its kind", of any steps; "frame bytes + junk + bad + short = capture length"
  pub counts_are_steps : CountsAreSteps
  pub counts_add_up : (s : List ℕ) → let xs = closed_steps s in frame_bytes_in xs + junks_in xs + bads_in xs + shorts_in xs ≡ length s

-- "a record written reads back bit for bit; an accepted payload written again gives the same bytes"
pub record ReadAndWritten : Type 0 where
  -- every message: `Faithful` says both, and under the number by which it is written its own reader reads it
  pub messages : AllOf Promised messages
  -- what is read and written of OBS, and of LOG, is that message
  pub obs : ObsFaithful
  pub obs_read : Typed first.kind (λ r. M.Obs r) read_obs
  pub log : LogFaithful
  pub log_read : Typed (system.log).kind (λ r. M.Log r) read_log
  -- the sender that reading shows is the number that the type and the writer say (document 02, P6), of a frame of any type with any payload as of
  -- every message, so that a type means the same through either door
  pub senders : Carries
  pub any_frame : (kind : ℕ) (w : Writer) (payload buf : List ℕ) (n : ℕ) → kind < 65536 → HeldWriter w → planned (length payload) (length buf) ≡ given n
      → let f : Frame = record { at = 0; kind = kind; sender = carried kind w; length = length payload } in
      (step_at (with_frame kind w payload buf) 0 ≡ Found f) × (payload_in (with_frame kind w payload buf) f ≡ payload)
  -- "a reader that keeps the lent payload and its place": asked n times it keeps its payload and stands where n questions lead
  pub obs_asked : (n : ℕ) (r : ObsReader) → asked_times n r ≡ record { kind = r.kind; payload = r.payload; at = standing n r.kind r.payload.now r.at }
  -- from the start they are answered by the payload's observations in order, each once, and by a refusal from then on
  pub obs_walk : (kind : ℕ) (s : List ℕ) (more : ℕ)
      → Walk (length (observations_in kind s) + more) kind s 0 (map given (observations_in kind s) ++ replicate more (past_them kind s)) (length (observations_in kind s))
  -- "256 × L.i + L.f", and it has one pair, which gives it back
  pub phase_read : (z : ℤ) (p : Phase) → read_phase z ≡ given p → (phase_of p ≡ z) × (p.l_f < 256)
  pub phase_of_lem : (p : Phase) → phase_of p ≡ pos 256 *ℤ p.l_i +ℤ pos p.l_f
  pub phase : ((z : ℤ) → phase_of (parts_of z) ≡ z) × ((p : Phase) → p.l_f < 256 → parts_of (phase_of p) ≡ p)

-- an observation frame's own numbers: tow u32, wn u16, n_obs u8, whose upper four bits are n and the lower four the counter; k observations
pub record WellFormed (x : Content) (p : Packet) : Type 0 where
  pub kind : x.kind ≡ 0x0049
  pub size : length x.payload ≡ 16 * p.observations + 7
  pub few : p.observations ≤ 15
  pub tow : p.key.tow ≡ number_at 4 x.payload 0
  pub wn : p.key.wn ≡ number_at 2 x.payload 4
  pub n : p.key.n ≡ number_at 1 x.payload 6 / 16
  pub counter : p.counter ≡ number_at 1 x.payload 6 % 16
  pub some : 1 ≤ p.key.n
  pub below : p.counter < p.key.n

pub record Reported (x : Content) (e : Report) : Type 0 where
  pub sender : e.sender ≡ x.sender
  pub wn : e.wn ≡ number_at 2 x.payload 4
  pub tow : e.tow ≡ number_at 4 x.payload 0
  pub n : e.n ≡ number_at 1 x.payload 6 / 16

-- "an epoch is reported exactly when its packets stand as document 01 says, once each", document 01's epoch being replaced by document 02's (P7)
pub record EpochsReported : Type 0 where
  -- after any frames, feeding one more reports an epoch exactly when that frame ends it
  pub reported_exactly : (roster : List ℕ) → (made roster).number ≡ 0 → (xs : List Content) (x : Content) (e : Report)
      → ((fed_frame (after (made roster).collator xs) x).happened ≡ H.Epoch e) ↔ EndsEpoch roster xs x e
  -- "A well-formed observation frame has type 0x0049, length 16k + 7, n from 1 to 15 and i below n": its packet, number by number
  pub well_formed : (x : Content) (p : Packet) → (own_packet x ≡ given p) ↔ WellFormed x p
  -- what is reported of an epoch: its sender, and wn, tow and n of its last frame
  pub report_numbers : (roster : List ℕ) (xs : List Content) (x : Content) (e : Report) → EndsEpoch roster xs x e → Reported x e
  -- and the sum of its group's observations, each counter once
  pub report_sum : (roster : List ℕ) (xs : List Content) (x : Content) (e : Report) (w : EndsEpoch roster xs x e) → e.observations ≡ w.total
  -- what is asked of packets below holds of every well-formed frame's
  pub formed : (x : Content) (p : Packet) → own_packet x ≡ given p → Formed p
  -- when it ends is, packet by packet, what document 02 says (P7): all of 0 to n - 1 have come in its group, and this one brought the last
  pub in_words : (p : Packet) (past : List Packet) (total : ℕ) → Formed p → EpochEnds p past total ↔ InWords p past total
  -- "one whose counter has come already is answered 47"
  pub copies : (roster : List ℕ) → (made roster).number ≡ 0 → (xs : List Content) (x : Content)
      → ((fed_frame (after (made roster).collator xs) x).happened ≡ H.Refused 47) ↔ BringsCopy roster xs x
  -- both of the step itself, which `groups::step` makes by its line (`capture_calls`): from what a sender's packets have left open
  pub step_ends : (p : Packet) (past : List Packet) (total : ℕ) → AllFormed (p ∷ past)
      → (ended_of (reply (stepping (left_open past) p)) ≡ Some total) ↔ EpochEnds p past total
  pub step_copies : (p : Packet) (past : List Packet) → AllFormed (p ∷ past) → (reply (stepping (left_open past) p) ≡ refused 47) ↔ (is_copy past p ≡ true)
  -- within a sender, the order in which the packets of one group arrive changes nothing about its report
  pub any_order : (roster : List ℕ) → (made roster).number ≡ 0 → InAnyOrder roster
  -- packets that come in counter order, without copies, end the epochs that document 01 gave before P7
  pub in_order : InOrder
  -- once each: a frame ends one epoch at most
  pub one_at_most : (roster : List ℕ) → (made roster).number ≡ 0 → (xs : List Content) (x : Content) (d e : Report)
      → EndsEpoch roster xs x d → EndsEpoch roster xs x e → d ≡ e
  -- "and the sum of k (at most 225)", of payloads that are bytes
  pub at_most_225 : (roster : List ℕ) → (made roster).number ≡ 0 → (xs : List Content) (x : Content) (e : Report) → Bytes x.payload
      → (fed_frame (after (made roster).collator xs) x).happened ≡ H.Epoch e → e.observations ≤ 225
  -- a whole capture, read closed and fed in order to a fresh collator: its epochs are what is reported, each once and in order
  pub capture_reported : (roster : List ℕ) → (made roster).number ≡ 0 → (s : List ℕ) (es : List Report)
      → Epochs roster [] (contents_of s) es ↔ (es ≡ reports (made roster).collator (contents_of s))
  -- `collate` answers the roster's number and comes to the same end, and counts the epochs by place
  pub capture_number : (roster s : List ℕ) → (collated s roster).number ≡ (made roster).number
  pub capture_end : (roster : List ℕ) → (made roster).number ≡ 0 → (s : List ℕ) → (collated s roster).collator ≡ after (made roster).collator (contents_of s)
  pub capture_counted : (roster : List ℕ) → (made roster).number ≡ 0 → (s : List ℕ) (es : List Report) → length s < 2 ^ 64 → Epochs roster [] (contents_of s) es
      → (i : ℕ) → i < length roster → get_or (collated s roster).reports i 0 ≡ length (reports_of (get_or roster i 0) es)
  pub capture_others : (roster : List ℕ) → (made roster).number ≡ 0 → (s : List ℕ) (i : ℕ) → length roster ≤ i → get_or (collated s roster).reports i 0 ≡ 0

-- numbers in decimal, each behind a space, to the line's end
abbrev pub shows : List ℕ → List ℕ
shows [] = 0x0a ∷ []
shows (n ∷ ns) = 0x20 ∷ decimal n ++ shows ns

-- document 01, "`sbplist`"
pub record Listed : Type 0 where
  -- "The roster is the first eight different senders of frames of type 0x0049, malformed ones too, in order of appearance"
  pub roster : (s : List ℕ) → roster_in s ≡ take 8 (different [] (obs_senders_in s))
  pub obs_senders_lem : (x : Content) (xs : List Content)
      → (x.kind ≡ 0x0049 → obs_senders (x ∷ xs) ≡ x.sender ∷ obs_senders xs) × ((x.kind ≡ 0x0049 → ⊥) → obs_senders (x ∷ xs) ≡ obs_senders xs)
  -- so it names only such senders, and every one of them while it has room
  pub roster_names : (s : List ℕ) (sender : ℕ)
      → (names (roster_in s) sender ≡ true → names (obs_senders_in s) sender ≡ true)
      × (length (roster_in s) < 8 → names (obs_senders_in s) sender ≡ true → names (roster_in s) sender ≡ true)
  -- a collator that takes senders on as they come (`enlist`) comes to the same as one that is made of it
  pub roster_grows : (xs : List Content) → AsOfTheFirst xs
  -- a collator takes it, unless it is empty
  pub roster_taken : (s : List ℕ) → (roster_in s ≡ []) ⊎ ((made (roster_in s)).number ≡ 0)
  -- "for each frame `F` ..; after the frame that ends an epoch, `E` ..; at the end `T` ..": the text is these lines, and no other
  pub lines : (s text : List ℕ) → Lines s (roster_in s) [] (frames_of (closed_steps s)) text ↔ (text_of s ≡ text ++ totals_line s)
  -- "with none, no collator is made": no `E` line
  pub lines_alone : (s : List ℕ) → obs_senders_in s ≡ [] → text_of s ≡ flat_map (frame_line s) (frames_of (closed_steps s)) ++ totals_line s
  -- what each line shows: `F` offset type sender length payload-answer; `E` sender wn tow n observations; `T` length, frame bytes, junk, bad, short
  pub frame_line_lem : (s : List ℕ) (f : Frame) → frame_line s f ≡ 0x46 ∷ shows (f.at ∷ f.kind ∷ f.sender ∷ f.length ∷ answer_for f.kind (payload_in s f) ∷ [])
  pub epoch_line_lem : (e : Report) → epoch_line e ≡ 0x45 ∷ shows (e.sender ∷ e.wn ∷ e.tow ∷ e.n ∷ e.observations ∷ [])
  pub totals_line_lem : (s : List ℕ) → let xs = closed_steps s in
      totals_line s ≡ 0x54 ∷ shows (length s ∷ frame_bytes_in xs ∷ junks_in xs ∷ bads_in xs ∷ shorts_in xs ∷ [])
  -- "numbers in decimal": a digit is ASCII's, 48 for 0, and the last stands for the ones
  pub one_digit : (n : ℕ) → n < 10 → decimal n ≡ (48 + n) ∷ []
  pub more_digits : (n : ℕ) → 10 ≤ n → decimal n ≡ decimal (n / 10) ++ (48 + n % 10) ∷ []
  -- a buffer of 8 bytes for each of a capture's, and 32, gets the whole text, and keeps the bytes after it
  pub room : (s buf : List ℕ) → Bytes s → length s ≤ 65536 → 8 * length s + 32 ≤ length buf
      → (list_answer s (length buf) ≡ given (length (text_of s))) × (with_listing s buf ≡ text_of s ++ drop (length (text_of s)) buf)
  -- what `sbplist` prints: that text, and of more than 65536 bytes `R 11` only
  pub printed : (s : List ℕ) → length s ≤ 65536 → output s ≡ text_of s
  pub over_long : (s : List ℕ) → 65536 < length s → output s ≡ 0x52 ∷ shows (11 ∷ [])

pub record Demand2 : Type 0 where
  pub frames_found : FramesFound
  pub every_byte_counted : EveryByteCounted
  pub read_and_written : ReadAndWritten
  pub epochs_reported : EpochsReported
  pub listing : Listed
