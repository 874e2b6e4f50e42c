-- Keys: `same_key` holds exactly of equal keys, which is all that later laws use of it.
use mathlib.Core.Path.{◌≡◌, refl, subst}
use mathlib.Core.Bool.{true, ◌&&◌, and-eq-true_iff}
use lib.Dec.{eqb}
use borrow.Author.Tests.{eqb-true, eq-eqb}
use Rattle.packets.specs.Packet.{same_key}
use Rattle.packets.specs.declared.packet.Key.{Key}

pub equal_key : (a b : Key) → same_key a b ≡ true → a ≡ b
unfolding same_key
equal_key a b e =
    let last = (and-eq-true_iff (eqb a.tow b.tow && eqb a.wn b.wn) (eqb a.n b.n)).0 e in
    let first = (and-eq-true_iff (eqb a.tow b.tow) (eqb a.wn b.wn)).0 last.0 in
    λ i. record { tow = eqb-true a.tow b.tow first.0 i; wn = eqb-true a.wn b.wn first.1 i; n = eqb-true a.n b.n last.1 i }

own_key : (a : Key) → same_key a a ≡ true
unfolding same_key
own_key a = rw (eq-eqb a.tow a.tow refl, eq-eqb a.wn a.wn refl, eq-eqb a.n a.n refl)

pub same_key_lem : (a b : Key) → a ≡ b → same_key a b ≡ true
same_key_lem a b e = subst (λ (k : Key). same_key a k ≡ true) e (own_key a)
