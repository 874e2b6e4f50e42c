-- What calls of `feed` tell their caller: of a frame by the number handed back, and of an epoch by the row of its report.
use Rattle.std.specs.Prelude.{ℕ, ◌≤◌, ◌<◌, ◌≡◌, cond, List, [], ◌∷◌, eqb, length, get_or}
use Rattle.wire.specs.Number.{Bytes, number_at}
use Rattle.frames.specs.Frame.{Content}
use Rattle.epochs.specs.Collator.{made}
use Rattle.epochs.specs.declared.collating.Report.{Report}
use Rattle.epochs.specs.Happened.{Happened}
use Rattle.epochs.specs.Happened as H
use Rattle.states.specs.Feed.{FedIn, fed_in}

-- a frame as C has it: its payload is bytes, its sender a number of 16 bits
abbrev pub AsSent : Content → Type 0
AsSent x = Bytes x.payload × (x.sender < 65536)

abbrev pub Sent : List Content → Type 0
Sent [] = Unit {0}
Sent (x ∷ xs) = AsSent x × Sent xs

-- the report that a row shows, each number where link/include/sbp.h has it
abbrev pub shown_report : List ℕ → Report
shown_report row = record { sender = number_at 2 row 0; wn = number_at 2 row 2; tow = number_at 4 row 4; n = number_at 1 row 8; observations = number_at 2 row 9 }

-- 0 taken, 1 an epoch, any other number a refusal
abbrev pub told_by : ℕ → List ℕ → Happened
told_by answer report = cond (eqb answer 0) H.Taken (cond (eqb answer 1) (H.Epoch (shown_report report)) (H.Refused answer))

abbrev pub told : FedIn → Happened
told out = told_by out.answer out.report

-- of frames fed one after the other
unfoldable pub told_in : List ℕ → List ℕ → List Content → List Happened
unfolding fed_in
told_in state report [] = []
told_in state report (x ∷ xs) = let out = fed_in state x report in told out ∷ told_in out.state out.report xs

-- and the state at the end
unfoldable pub after_in : List ℕ → List ℕ → List Content → List ℕ
unfolding fed_in
after_in state report [] = state
after_in state report (x ∷ xs) = let out = fed_in state x report in after_in out.state out.report xs

-- bytes that were filled for a roster, and frames fed to them
pub record Filled (roster s report : List ℕ) (xs : List Content) : Type 0 where
  pub taken : (made roster).number ≡ 0
  pub senders : (i : ℕ) → get_or roster i 0 < 65536
  pub long : 113 ≤ length s
  pub room : 11 ≤ length report
  pub sent : Sent xs
