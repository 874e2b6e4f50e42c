-- The pair of captures on which closed reading takes a frame back, by computation.
use mathlib.Core.Path.{◌≡◌, refl, sym, ap, ◌∙◌}
use mathlib.Core.Bool.{true}
use mathlib.Core.List.{List, [], ◌∷◌, ◌++◌}
use Prim.Native.Nat.{ℕ}
use native.Mathlib.Omega.{arith}
use lib.ListN.{length, get_or, length-append}
use Rattle.wire.specs.Number.{number_at}
use Rattle.crc.specs.Crc.{bit_step, bit_steps, byte_step, crc_from}
use Rattle.frames.specs.Step.{step_of}
use Rattle.frames.specs.Reading.{read_from, closed_steps, frames_of}
use Rattle.frames.specs.Cursors.{begun, next_of}
use Rattle.stays.specs.Stays.{Leads}
use Rattle.frames.specs.declared.step.Frame.{Frame}
use Rattle.frames.specs.declared.cursor.Next as Next
use Rattle.demands.specs.Swallowed.{early, late, inner, outer, Swallowed}

shown : frames_of (closed_steps early) ≡ inner ∷ []
unfolding number_at bit_step bit_steps byte_step crc_from step_of read_from frames_of
shown = refl

gone : frames_of (closed_steps late) ≡ outer ∷ []
unfolding number_at bit_step bit_steps byte_step crc_from step_of read_from frames_of
gone = refl

-- the first frames stand at 0 and at 6
frames_differ : Leads (frames_of (closed_steps early)) (frames_of (closed_steps late)) → ⊥
frames_differ (rest, e) =
    let at : ◌≡◌ {A = ℕ} 0 6 = ap (λ (fs : List Frame). (get_or fs 0 inner).at) (sym gone ∙ e ∙ ap (λ (fs : List Frame). fs ++ rest) shown) in
    absurd (omega arith)

-- nine steps, and then one
nine : length (closed_steps early) ≡ 9
unfolding number_at bit_step bit_steps byte_step crc_from step_of read_from
nine = refl

one : length (closed_steps late) ≡ 1
unfolding number_at bit_step bit_steps byte_step crc_from step_of read_from
one = refl

steps_differ : Leads (closed_steps early) (closed_steps late) → ⊥
steps_differ (rest, e) = absurd (omega (arith, nine, one, ap length e, length-append (closed_steps early) rest))

waits : next_of early (begun true) ≡ Next.TheVariants.Needs 18 (begun true)
unfolding number_at bit_step bit_steps byte_step crc_from step_of read_from next_of
waits = refl

pub swallowed : Swallowed
swallowed = record {
  longer = (0x96 ∷ 0x39 ∷ [], refl);
  shown = shown;
  gone = gone;
  frames_differ = frames_differ;
  steps_differ = steps_differ;
  waits = waits;
}
