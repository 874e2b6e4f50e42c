-- An edition of OBS: which types are observations; which lengths its payloads have, those of a header and k observations, k up to
-- the most.
use mathlib.Core.Path.{◌≡◌, refl}
use mathlib.Core.Bool.{true}
use Prim.Native.Nat.{ℕ, ◌-◌, ◌≤◌}
use native.Mathlib.Nat.{div-add-mod'}
use native.Mathlib.Omega.{arith}
use borrow.Author.Tests.{eqb-true}
use Rattle.layouts.specs.Field.{size}
use Rattle.layouts.proofs.Layouts.{lengths_of}
use Rattle.observation.specs.Edition.{Edition, obs, fitting, count_in, start_of, first, is_obs}

-- ---- types

pub first_is_obs : is_obs first.kind ≡ true
unfolding is_obs
first_is_obs = refl

pub obs_kind : (kind : ℕ) → is_obs kind ≡ true → kind ≡ first.kind
unfolding is_obs
obs_kind kind e = eqb-true kind first.kind e

module _ {H O : Type 0} (e : Edition H O) where
  -- a length that fits is that of a header and so many observations
  pub whole : (n : ℕ) → fitting e n ≡ true → (n ≡ start_of e (count_in e n)) × (count_in e n ≤ e.most)
  whole n fits =
      let (head, (rest, few)) = lengths_of (obs e).layout n fits in
      let split = div-add-mod' (n - size e.header.fields) (size e.row.fields) in
      (omega arith, few)
