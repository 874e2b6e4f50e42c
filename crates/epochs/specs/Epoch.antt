-- Frames fed in order: the packets of each sender, what each frame comes to, and which frame ends an epoch in document 02's words. Nothing here
-- looks inside a packet or a step.
use Rattle.std.specs.Prelude.{ℕ, ◌≤◌, ◌≡◌, true, false, cond, List, [], ◌∷◌, ◌++◌, map, ◌↔◌, eqb, length}
use Rattle.refusals.specs.Refusals.{refused, given, Answer}
use Rattle.frames.specs.Frame.{Content}
use Rattle.frames.specs.Step.{payload_in}
use Rattle.frames.specs.Reading.{closed_steps, frames_of}
use Rattle.frames.specs.declared.step.Frame.{Frame}
use Rattle.packets.specs.Packet.{recognised}
use Rattle.packets.specs.declared.packet.Packet.{Packet}
use Rattle.groups.specs.InWords.{is_copy, EpochEnds}
use Rattle.epochs.specs.Search.{names, repeats}
use Rattle.epochs.specs.Collator.{fed_frame}
use Rattle.epochs.specs.declared.collating.Collator.{Collator}
use Rattle.epochs.specs.declared.collating.Report.{Report}
use Rattle.epochs.specs.Happened.{Happened}
use Rattle.epochs.specs.Happened as H

-- ---- the packets of frames

-- what a frame is by itself
abbrev pub own_packet : Content → Answer Packet
own_packet x = recognised x.kind x.payload

-- the packet of a well-formed frame comes to those before it
abbrev pub kept : Answer Packet → List Packet → List Packet
kept (refused n) past = past
kept (given p) past = p ∷ past

unfoldable pub packets_of : List Content → List Packet → List Packet
packets_of [] past = past
packets_of (x ∷ xs) past = packets_of xs (kept (own_packet x) past)

unfoldable pub of_sender : ℕ → List Content → List Content
of_sender sender [] = []
of_sender sender (x ∷ xs) = cond (eqb x.sender sender) (x ∷ of_sender sender xs) (of_sender sender xs)

-- a sender's own well-formed packets, the latest first
unfoldable pub history_of : ℕ → List Content → List Packet
unfolding packets_of of_sender
history_of sender xs = packets_of (of_sender sender xs) []

-- ---- what feeding frames leaves, what each of them comes to, and the reports among that

unfoldable pub after : Collator → List Content → Collator
after c [] = c
after c (x ∷ xs) = after (fed_frame c x).collator xs

unfoldable pub outcomes : Collator → List Content → List Happened
outcomes c [] = []
outcomes c (x ∷ xs) = (fed_frame c x).happened ∷ outcomes (fed_frame c x).collator xs

abbrev pub report_in : Happened → List Report → List Report
report_in (H.Refused n) rs = rs
report_in H.Taken rs = rs
report_in (H.Epoch r) rs = r ∷ rs

abbrev pub reports_in : List Happened → List Report
reports_in [] = []
reports_in (h ∷ hs) = report_in h (reports_in hs)

abbrev pub reports : Collator → List Content → List Report
reports c xs = reports_in (outcomes c xs)

unfoldable pub reports_of : ℕ → List Report → List Report
reports_of sender [] = []
reports_of sender (r ∷ rs) = cond (eqb r.sender sender) (r ∷ reports_of sender rs) (reports_of sender rs)

-- ---- demand 2 and demand 3

-- the frame x, fed after xs, ends the epoch that e reports: its sender is listed, it is well-formed, and it is the last of an epoch of its
-- sender's own packets
pub record EndsEpoch (roster : List ℕ) (xs : List Content) (x : Content) (e : Report) : Type 0 where
  pub packet : Packet
  pub total : ℕ
  pub listed : names roster x.sender ≡ true
  pub formed : own_packet x ≡ given packet
  pub ends : EpochEnds packet (history_of x.sender xs) total
  pub report : e ≡ record { sender = x.sender; wn = packet.key.wn; tow = packet.key.tow; n = packet.key.n; observations = total }

-- the frame x, fed after xs, is a copy: its sender is listed, it is well-formed, and its counter has come already in the open group of its key
pub record BringsCopy (roster : List ℕ) (xs : List Content) (x : Content) : Type 0 where
  pub packet : Packet
  pub listed : names roster x.sender ≡ true
  pub formed : own_packet x ≡ given packet
  pub copy : is_copy (history_of x.sender xs) packet ≡ true

-- each of the frames that come after those of the past came to an epoch exactly when it ends that epoch
abbrev pub CameTo : List ℕ → List Content → List Content → List Happened → Type 0
CameTo roster past [] [] = Unit {0}
CameTo roster past [] (h ∷ hs) = ⊥
CameTo roster past (x ∷ xs) [] = ⊥
CameTo roster past (x ∷ xs) (h ∷ hs) = ((e : Report) → (h ≡ H.Epoch e) ↔ EndsEpoch roster past x e) × CameTo roster (past ++ x ∷ []) xs hs

-- the epochs of the frames that come after those of the past: one for each frame that ends one, in order
pub data Epochs (roster : List ℕ) : List Content → List Content → List Report → Type 0 where
  none : {past : List Content} → Epochs roster past [] []
  ending : {past xs : List Content} {x : Content} {e : Report} {es : List Report} → EndsEpoch roster past x e → Epochs roster (past ++ x ∷ []) xs es
      → Epochs roster past (x ∷ xs) (e ∷ es)
  passing : {past xs : List Content} {x : Content} {es : List Report} → ((e : Report) → EndsEpoch roster past x e → ⊥) → Epochs roster (past ++ x ∷ []) xs es
      → Epochs roster past (x ∷ xs) es

-- each listed sender has its seat: an accepted roster, or that of nobody
pub record Seated (roster : List ℕ) : Type 0 where
  pub few : length roster ≤ 8
  pub once : repeats roster ≡ false

-- every listed sender sent the same frames in the same order
abbrev pub SameFrames : List ℕ → List Content → List Content → Type 0
SameFrames roster xs ys = (s : ℕ) → names roster s ≡ true → of_sender s xs ≡ of_sender s ys

-- the frames of a capture, read closed
abbrev pub content_in : List ℕ → Frame → Content
content_in s f = record { kind = f.kind; sender = f.sender; payload = payload_in s f }

unfoldable pub contents_of : List ℕ → List Content
contents_of s = map (content_in s) (frames_of (closed_steps s))
