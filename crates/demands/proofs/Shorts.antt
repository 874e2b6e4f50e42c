-- What a short needs is not there yet.
use mathlib.Core.Path.{◌≡◌}
use mathlib.Core.List.{List}
use Prim.Native.Nat.{ℕ, ◌+◌, ◌<◌}
use native.Mathlib.Omega.{arith}
use lib.ListN.{length}
use Rattle.frames.specs.Step.{step_at}
use Rattle.frames.specs.Decides.{Decides, size, finished, junk, headless, cut, bad, found}
use Rattle.frames.specs.declared.step.Step.{Step}
use Rattle.frames.specs.declared.step.Step.TheVariants.{Short}
use Rattle.frames.proofs.Steps.{decided}

pub needs_more : (s : List ℕ) (p n : ℕ) → step_at s p ≡ Short n → length s < p + n
needs_more s p n e = by (decided s p) e
  where
    by : {x : Step} → Decides s p x → x ≡ Short n → length s < p + n
    by (finished h) e = let z : ◌≡◌ {A = ℕ} 0 1 = cc in absurd (omega arith)
    by (junk h b) e = let z : ◌≡◌ {A = ℕ} 0 1 = cc in absurd (omega arith)
    by (headless h b l) e = let same : n ≡ 6 = cc in omega arith
    by (cut b h l) e = let same : n ≡ size s p + 8 = cc in omega arith
    by (bad b l x) e = let z : ◌≡◌ {A = ℕ} 0 1 = cc in absurd (omega arith)
    by (found b l x) e = let z : ◌≡◌ {A = ℕ} 0 1 = cc in absurd (omega arith)
