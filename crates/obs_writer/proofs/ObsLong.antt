-- How long what is written is: a header and the first k of some observations take as many bytes as observation k begins at.
use mathlib.Core.Path.{◌≡◌, refl, ap, ◌∙◌}
use mathlib.Core.List.{List, [], ◌∷◌}
use Prim.Native.Nat.{ℕ, suc, ◌≤◌}
use lib.ListN.{length, take}
use lib.Seq.{length-take-le}
use Rattle.layouts.specs.Layout.{body_size}
use Rattle.layouts.specs.Description.{rows_of}
use Rattle.observation.specs.Edition.{Edition, obs, start_of}
use Rattle.obs_writer.specs.ObsWriter.{observed}

module _ {H O : Type 0} (e : Edition H O) where
  pub rows_counted : (os : List O) → length (rows_of e.row os) ≡ length os
  rows_counted [] = refl
  rows_counted (o ∷ os) = ap suc (rows_counted os)

  module _ (h : H) (k : ℕ) (os : List O) (enough : k ≤ length os) where
    pub first_rows : length (rows_of e.row (take k os)) ≡ k
    first_rows = rows_counted (take k os) ∙ length-take-le k os enough

    pub sized : body_size (obs e).layout ((obs e).row (observed e h k os)) ≡ start_of e k
    sized = ap (start_of e) first_rows
