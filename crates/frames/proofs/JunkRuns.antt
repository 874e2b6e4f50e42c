-- Runs of junk: their length, and that what a cursor keeps at each byte of junk it keeps past all of them.
use Rattle.std.proofs.Common.{◌≡◌, ℕ, zero, suc, ◌+◌, ◌%◌, ◌^◌, ◌<◌, ◌≤◌, Bool, true, false, not, eqb, leb, List, [], ◌∷◌, length, get_or, drop, sym, refl, ap, ◌∙◌, subst, add-zero, add_assoc, mod-eq_of_lt, arith, length-drop, get_or-drop, drop-cons, drop-drop, eqb-true, le-leb, leb-false, leb-true}
use mathlib.Core.Path.{subst⁻¹}
use mathlib.Core.Bool.{◌||◌}
use native.Mathlib.Nat.{mod-add-mod}
use borrow.Author.Tests.{eqb-false, lt-leb}
use Rattle.frames.specs.Reading.{stops}
use Rattle.frames.specs.Cursors.{plus, over, passes, next_of, Honest}
use Rattle.frames.specs.Inner.{junk_run, over_junk}
use Rattle.frames.specs.declared.step.Step.{Step}
use Rattle.frames.specs.declared.step.Step.TheVariants.{Junk}
use Rattle.frames.specs.declared.cursor.Cursor.{Cursor}
use Rattle.frames.specs.Decides.{Decides, junk}
use Rattle.frames.proofs.Steps.{only, decided}
use Rattle.frames.proofs.GoingOn.{here, next_over, honest_over}

-- ---- how long a run is

-- by its first byte
data Front (b : ℕ) (t : List ℕ) : Type 0 where
  mark : b ≡ 0x55 → junk_run (b ∷ t) ≡ 0 → Front b t
  pass : (b ≡ 0x55 → ⊥) → junk_run (b ∷ t) ≡ suc (junk_run t) → Front b t

front : (b : ℕ) (t : List ℕ) → Front b t
unfolding junk_run
front b t = by (eqb b 0x55) refl
  where
    by : (x : Bool) → eqb b 0x55 ≡ x → Front b t
    by true e = mark (eqb-true b 0x55 e) (rw e)
    by false e = pass (eqb-false b 0x55 e) (rw e)

run_none : junk_run [] ≡ 0
unfolding junk_run
run_none = refl

pub run_length : (t : List ℕ) → junk_run t ≤ length t
run_length [] = omega (arith, run_none)
run_length (b ∷ t) = by (front b t) (run_length t)
  where
    by : Front b t → junk_run t ≤ length t → junk_run (b ∷ t) ≤ length (b ∷ t)
    by (mark e r) rest = omega (arith, r)
    by (pass n r) rest = omega (arith, r)

-- what is left of it after a part
run_split : (k : ℕ) (t : List ℕ) → k ≤ junk_run t → junk_run t ≡ k + junk_run (drop k t)
run_split zero t h = omega arith
run_split (suc k) [] h = absurd (omega (arith, run_none))
run_split (suc k) (b ∷ t) h = by (front b t) (run_split k t)
  where
    by : Front b t → (k ≤ junk_run t → junk_run t ≡ k + junk_run (drop k t)) → junk_run (b ∷ t) ≡ suc k + junk_run (drop k t)
    by (mark e r) rest = absurd (omega (arith, r))
    by (pass n r) rest = omega (arith, r, rest (omega (arith, r)))

-- after k bytes of it: it goes on over a byte that is not 0x55
pub run_more : (k : ℕ) (t : List ℕ) → k ≤ junk_run t → k < length t → (get_or t k 0 ≡ 0x55 → ⊥) → suc k ≤ junk_run t
run_more k t h l n = by (front (get_or t k 0) (drop (suc k) t))
  where
    by : Front (get_or t k 0) (drop (suc k) t) → suc k ≤ junk_run t
    by (mark e r) = absurd (n e)
    by (pass _ r) = omega (arith, run_split k t h, ap junk_run (drop-cons t k 0 l), r)

-- and ends at one that is
pub run_stop : (k : ℕ) (t : List ℕ) → k ≤ junk_run t → k < length t → get_or t k 0 ≡ 0x55 → junk_run t ≡ k
run_stop k t h l e = by (front (get_or t k 0) (drop (suc k) t))
  where
    by : Front (get_or t k 0) (drop (suc k) t) → junk_run t ≡ k
    by (mark _ r) = omega (arith, run_split k t h, ap junk_run (drop-cons t k 0 l), r)
    by (pass n r) = absurd (n e)

-- or at the end
pub run_end : (k : ℕ) (t : List ℕ) → k ≤ junk_run t → length t ≤ k → junk_run t ≡ k
run_end k t h l = omega (arith, h, l, run_length t)

-- n bytes further, where the run from there on has as many
pub run_on : (k n : ℕ) (t : List ℕ) → k ≤ junk_run t → n ≤ junk_run (drop k t) → k + n ≤ junk_run t
run_on k n t h g = omega (arith, g, run_split k t h)

-- a run that is not empty begins with junk
run_begins : (t : List ℕ) → 1 ≤ junk_run t → (0 < length t) × (get_or t 0 0 ≡ 0x55 → ⊥)
run_begins t h = let some : 0 < length t = omega (arith, run_length t) in (some, λ e. absurd (omega (arith, h, run_stop 0 t (omega arith) some e)))

-- whether a byte among the first i ends it, found byte by byte
abbrev pub Hit : List ℕ → ℕ → Bool
Hit t i = not (leb i (junk_run t))

pub hit_none : (t : List ℕ) → false ≡ Hit t 0
hit_none t = rw (le-leb 0 (junk_run t) (omega arith))

pub hit_more : (t : List ℕ) (i : ℕ) → i < length t → (Hit t i || eqb (get_or t i 0) 0x55) ≡ Hit t (i + 1)
hit_more t i l = by (eqb (get_or t i 0) 0x55) refl (leb i (junk_run t)) refl
  where
    by : (x : Bool) → eqb (get_or t i 0) 0x55 ≡ x → (y : Bool) → leb i (junk_run t) ≡ y → (Hit t i || eqb (get_or t i 0) 0x55) ≡ Hit t (i + 1)
    by true e true g = rw (e, g, lt-leb (i + 1) (junk_run t) (omega (arith, run_stop i t (leb-true i (junk_run t) g) l (eqb-true (get_or t i 0) 0x55 e))))
    by true e false g = rw (e, g, lt-leb (i + 1) (junk_run t) (omega (arith, leb-false i (junk_run t) g)))
    by false e true g = rw (e, g, le-leb (i + 1) (junk_run t) (omega (arith, run_more i t (leb-true i (junk_run t) g) l (eqb-false (get_or t i 0) 0x55 e))))
    by false e false g = rw (e, g, lt-leb (i + 1) (junk_run t) (omega (arith, leb-false i (junk_run t) g)))

-- ---- what a cursor keeps

front_byte : (s : List ℕ) (p : ℕ) → get_or (drop p s) 0 0 ≡ get_or s p 0
front_byte s p = get_or-drop p s 0 0 ∙ ap (λ (k : ℕ). get_or s k 0) (add-zero p)

-- one sum after the other is their sum
plus_plus : (a m n k : ℕ) → m + n ≡ k → plus (plus a m) n ≡ plus a k
plus_plus a m n k e = mod-add-mod (a + m) (2 ^ 64) n ∙ ap (λ (x : ℕ). x % 2 ^ 64) (add_assoc a m n ∙ ap (λ (x : ℕ). a + x) e)

-- a byte of junk and then n is one more
fused : (c : Cursor) (n : ℕ) → over_junk (over c Junk) n ≡ over_junk c (suc n)
fused c n =
    let more : 1 + n ≡ suc n = omega arith in
    λ i. record {
      at = plus_plus c.at 1 n (suc n) more i;
      opened = c.opened;
      framed = plus_plus c.framed 0 0 0 refl i;
      junk = plus_plus c.junk 1 n (suc n) more i;
      bad = plus_plus c.bad 0 0 0 refl i;
      short = plus_plus c.short 0 0 0 refl i;
    }

module _ (s : List ℕ) (small : length s < 2 ^ 64) where
  -- where a run begins the step is junk, and past it the rest of the run is left
  module _ (c : Cursor) (h : 1 ≤ junk_run (drop c.at s)) where
    first : (0 < length (drop c.at s)) × (get_or (drop c.at s) 0 0 ≡ 0x55 → ⊥)
    first = run_begins (drop c.at s) h

    inside : c.at < length s
    inside = omega (arith, first.0, length-drop c.at s)

    is_junk : here s c ≡ Junk
    is_junk = sym (only s c.at (junk inside (λ e. first.1 (front_byte s c.at ∙ e))))

    one_further : (over c Junk).at ≡ c.at + 1
    one_further = mod-eq_of_lt (omega (arith, inside, small))

    rest : junk_run (drop c.at s) ≡ 1 + junk_run (drop (over c Junk).at s)
    rest =
        run_split 1 (drop c.at s) h
        ∙ ap (λ (t : List ℕ). 1 + junk_run t) (drop-drop 1 c.at s ∙ ap (λ (k : ℕ). drop k s) (sym one_further))

  module _ (P : Cursor → Type 0) (keeps : (c : Cursor) → here s c ≡ Junk → P c → P (over c Junk)) where
    many : (n : ℕ) (c : Cursor) → suc n ≤ junk_run (drop c.at s) → P c → P (over_junk c (suc n))
    many zero c h p = keeps c (is_junk c h) p
    many (suc n) c h p =
        let some : 1 ≤ junk_run (drop c.at s) = omega (arith, h) in
        subst P (fused c (suc n)) (many n (over c Junk) (omega (arith, h, rest c some)) (keeps c (is_junk c some) p))

  -- at a byte of junk
  module _ (c : Cursor) (j : Junk ≡ here s c) where
    begins : (c.at < length s) × (1 ≤ junk_run (drop c.at s))
    begins = by (subst⁻¹ (Decides s c.at) j (decided s c.at))
      where
        by : Decides s c.at Junk → (c.at < length s) × (1 ≤ junk_run (drop c.at s))
        by (junk h b) =
            (h, run_more 0 (drop c.at s) (omega arith) (omega (arith, h, length-drop c.at s)) (λ e. b (sym (front_byte s c.at) ∙ e)))

    pub junk_inside : c.at < length s
    junk_inside = begins.0

    -- of which there are n
    module _ {n : ℕ} (run : n ≡ junk_run (drop c.at s)) {d : Cursor} (past : d ≡ over_junk c n) where
      -- what holds at a cursor and goes on over a byte of junk holds past all of them
      pub past_junk_keeps : (P : Cursor → Type 0) → ((k : Cursor) → here s k ≡ Junk → P k → P (over k Junk)) → P c → P d
      past_junk_keeps P keeps p = subst⁻¹ P past (by n run)
        where
          by : (m : ℕ) → m ≡ junk_run (drop c.at s) → P (over_junk c m)
          by zero e = absurd (omega (arith, e, begins.1))
          by (suc m) e = many P keeps m c (omega (arith, e)) p

      -- the answer, the counts and the way made
      pub past_junk_next : next_of s d ≡ next_of s c
      past_junk_next =
          past_junk_keeps (λ (k : Cursor). next_of s k ≡ next_of s c)
          (λ k j e. ap (λ (x : Step). next_of s (over k x)) (sym j) ∙ sym (next_over s small k (ap (passes k.opened) j)) ∙ e) refl

      pub past_junk_honest : (opened : Bool) → Honest opened s c → Honest opened s d
      past_junk_honest opened h =
          past_junk_keeps (Honest opened s) (λ k j h. subst (λ (x : Step). Honest opened s (over k x)) j (honest_over s small opened k h (ap (stops opened) j))) h

      pub past_junk_further : c.at < d.at
      past_junk_further =
          let fits : c.at + n < 2 ^ 64 = omega (arith, run, begins.0, run_length (drop c.at s), length-drop c.at s, small) in
          let there : d.at ≡ c.at + n = ap (λ (k : Cursor). k.at) past ∙ mod-eq_of_lt fits in
          omega (arith, there, run, begins.1)
