-- Laws of numbers in bytes, over the width: a number read or stored is its two halves read or stored, a number as bytes comes back,
-- and so do bytes as a number.
use mathlib.Core.Path.{◌≡◌, refl, sym, ap, ap₂, ◌∙◌}
use mathlib.Core.Bool.{Bool, cond, true, false}
use mathlib.Core.List.{List, [], ◌∷◌, ◌++◌, append-nil}
use Prim.Native.Nat.{ℕ, zero, suc, ◌+◌, ◌-◌, ◌*◌, ◌/◌, ◌%◌, ◌^◌, ◌≤◌, ◌<◌}
use native.Mathlib.Nat.{zero-add, add-zero, suc-add, add-suc, one-mul, mul-zero, pow-suc, pow-succ', mul_assoc, div-div-eq-div-mul, div-one, mod-eq_of_lt, not-suc-le-zero, le_of_suc-le-suc}
use native.Mathlib.Omega.{arith}
use lib.Dec.{leb, lit<}
use lib.Arith.{mod-mul}
use lib.ListN.{length, get_or, take, drop, set, length-drop, drop_of_length-le}
use lib.Seq.{sets, drop-drop, drop-cons, take-nil, take_all, get_or-drop, set_out, length-sets}
use borrow.Author.Tests.{le-leb, leb-true, leb-false}
use Rattle.wire.specs.Number.{Bytes, little, bytes_of, number_at, stored_at}

-- ---- lists of bytes

pub bytes_take : (n : ℕ) (s : List ℕ) → Bytes s → Bytes (take n s)
bytes_take zero s h i = lit< tt
bytes_take (suc n) [] h i = lit< tt
bytes_take (suc n) (b ∷ s) h zero = h zero
bytes_take (suc n) (b ∷ s) h (suc i) = bytes_take n s (λ j. h (suc j)) i

pub bytes_drop : (n : ℕ) (s : List ℕ) → Bytes s → Bytes (drop n s)
bytes_drop n s h i = rw get_or-drop (h (n + i))

digits_pos : (w : ℕ) → 0 < 256 ^ w
digits_pos zero = lit< tt
digits_pos (suc w) = let before : 0 < 256 ^ w = digits_pos w in rw pow-succ' (omega arith)

-- ---- reading

-- one digit more, in front of another factor
next_digit : (a r : ℕ) → 256 ^ suc a * r ≡ 256 * (256 ^ a * r)
next_digit a r = ap (λ (x : ℕ). x * r) (pow-succ' 256 a) ∙ mul_assoc 256 (256 ^ a) r

nothing_read : (w : ℕ) → little (take w []) ≡ 0
unfolding little
nothing_read w = rw take-nil

little_halves : (a b : ℕ) (t : List ℕ) → little (take (a + b) t) ≡ little (take a t) + 256 ^ a * little (take b (drop a t))
unfolding little
little_halves zero b t = rw (zero-add b, one-mul, zero-add)
little_halves (suc a) b [] =
    let none : 256 ^ suc a * little (take b []) ≡ 0 = ap (λ (x : ℕ). 256 ^ suc a * x) (nothing_read b) ∙ mul-zero (256 ^ suc a) in
    nothing_read (suc a + b) ∙ sym (ap (λ (x : ℕ). 0 + x) none)
little_halves (suc a) b (x ∷ t) =
    let halves : little (take (a + b) t) ≡ little (take a t) + 256 ^ a * little (take b (drop a t)) = little_halves a b t in
    let digit : 256 ^ suc a * little (take b (drop a t)) ≡ 256 * (256 ^ a * little (take b (drop a t))) = next_digit a _ in
    rw suc-add (omega arith)

pub number_byte : (s : List ℕ) (at : ℕ) → at < length s → get_or s at 0 ≡ number_at 1 s at
unfolding number_at little
number_byte s at h = rw (drop-cons s at 0 h) (omega arith)

pub number_halves : (a b : ℕ) (s : List ℕ) (at : ℕ) {x y : ℕ} → x ≡ number_at a s at → y ≡ number_at b s (at + a) → x + 256 ^ a * y ≡ number_at (a + b) s at
unfolding number_at
number_halves a b s at p q = ap₂ (λ (x y : ℕ). x + 256 ^ a * y) p (q ∙ rw drop-drop) ∙ sym (little_halves a b (drop at s))

pub number_past : (w : ℕ) (s : List ℕ) (at : ℕ) → length s ≤ at → number_at w s at ≡ 0
unfolding number_at
number_past w s at h = ap (λ (t : List ℕ). little (take w t)) (drop_of_length-le s h) ∙ nothing_read w

pub little_lt : (w : ℕ) (t : List ℕ) → Bytes t → little (take w t) < 256 ^ w
unfolding little
little_lt zero t h = lit< tt
little_lt (suc w) [] h = digits_pos (suc w)
little_lt (suc w) (b ∷ t) h =
    let byte : b < 256 = h 0 in
    let rest : little (take w t) < 256 ^ w = little_lt w t (λ i. h (suc i)) in
    rw pow-succ' (omega arith)

pub number_lt : (w : ℕ) (s : List ℕ) (at : ℕ) → Bytes s → number_at w s at < 256 ^ w
unfolding number_at
number_lt w s at h = little_lt w (drop at s) (bytes_drop at s h)

-- ---- a number as bytes

pub length-bytes_of : (w n : ℕ) → length (bytes_of w n) ≡ w
unfolding bytes_of
length-bytes_of zero n = refl
length-bytes_of (suc w) n = ap suc (length-bytes_of w (n / 256))

bytes_halves : (a b n : ℕ) → bytes_of (a + b) n ≡ bytes_of a n ++ bytes_of b (n / 256 ^ a)
unfolding bytes_of
bytes_halves zero b n = rw (zero-add, div-one)
bytes_halves (suc a) b n =
    let digits : n / 256 / 256 ^ a ≡ n / 256 ^ suc a = div-div-eq-div-mul n 256 (256 ^ a) ∙ ap (λ (x : ℕ). n / x) (sym (pow-succ' 256 a)) in
    rw suc-add (ap (λ (t : List ℕ). n % 256 ∷ t) (bytes_halves a b (n / 256) ∙ ap (λ (x : ℕ). bytes_of a (n / 256) ++ bytes_of b x) digits))

-- only the lowest w digits of the number count
bytes_mod : (w n : ℕ) → bytes_of w (n % 256 ^ w) ≡ bytes_of w n
unfolding bytes_of
bytes_mod zero n = refl
bytes_mod (suc w) n =
    let split : n % 256 ^ suc w ≡ (n / 256 % 256 ^ w) * 256 + n % 256 = ap (λ (x : ℕ). n % x) (pow-suc 256 w) ∙ mod-mul n (digits_pos w) (lit< tt) in
    let low : n % 256 ^ suc w % 256 ≡ n % 256 = omega arith in
    let high : n % 256 ^ suc w / 256 ≡ n / 256 % 256 ^ w = omega arith in
    ap₂ (λ (x : ℕ) (t : List ℕ). x ∷ t) low (ap (bytes_of w) high ∙ bytes_mod w (n / 256))

-- ---- both ways

pub little_bytes_of : (w n : ℕ) → n < 256 ^ w → little (bytes_of w n) ≡ n
unfolding little bytes_of
little_bytes_of zero n h = omega arith
little_bytes_of (suc w) n h =
    let digit : 256 ^ suc w ≡ 256 * 256 ^ w = pow-succ' 256 w in
    let back : little (bytes_of w (n / 256)) ≡ n / 256 = little_bytes_of w (n / 256) (omega arith) in
    omega arith

pub bytes_of_little : (s : List ℕ) → Bytes s → bytes_of (length s) (little s) ≡ s
unfolding little bytes_of
bytes_of_little [] h = refl
bytes_of_little (b ∷ s) h =
    let byte : b < 256 = h 0 in
    let low : (b + 256 * little s) % 256 ≡ b = omega arith in
    let high : (b + 256 * little s) / 256 ≡ little s = omega arith in
    ap₂ (λ (x : ℕ) (t : List ℕ). x ∷ t) low (ap (bytes_of (length s)) high ∙ bytes_of_little s (λ i. h (suc i)))

-- ---- storing

pub stored_nowhere : (w n : ℕ) (s : List ℕ) (at : ℕ) → leb (at + w) (length s) ≡ false → s ≡ stored_at w n s at
unfolding stored_at
stored_nowhere w n s at e = rw e

pub stored_sets : (w n : ℕ) (s : List ℕ) (at : ℕ) → at + w ≤ length s → stored_at w n s at ≡ sets s at (bytes_of w n)
unfolding stored_at
stored_sets w n s at h = rw (le-leb (at + w) (length s) h)

-- one byte stored, or nothing where there is no such byte
pub set_byte : (v : ℕ) (s : List ℕ) (at : ℕ) → v < 256 → stored_at 1 v s at ≡ set s at v
unfolding bytes_of
set_byte v s at b = go (leb (at + 1) (length s)) refl
  where
    go : (t : Bool) → leb (at + 1) (length s) ≡ t → stored_at 1 v s at ≡ set s at v
    go true e = stored_sets 1 v s at (leb-true (at + 1) (length s) e) ∙ ap (set s at) (mod-eq_of_lt b)
    go false e = sym (stored_nowhere 1 v s at e) ∙ sym (set_out s at v (omega (arith, leb-false (at + 1) (length s) e)))

pub length-stored : (w n : ℕ) (s : List ℕ) (at : ℕ) → length (stored_at w n s at) ≡ length s
unfolding stored_at
length-stored w n s at = either (leb (at + w) (length s))
  where
    either : (t : Bool) → length (cond t (sets s at (bytes_of w n)) s) ≡ length s
    either true = length-sets s at (bytes_of w n)
    either false = refl

-- a run of stores in two parts
pub sets-append : (s : List ℕ) (i : ℕ) (xs ys : List ℕ) → sets s i (xs ++ ys) ≡ sets (sets s i xs) (i + length xs) ys
sets-append s i [] ys = rw add-zero
sets-append s i (x ∷ xs) ys = sets-append (set s i x) (suc i) xs ys ∙ rw (add-suc, suc-add)

-- a run of stores in what stands from n on
sets-part : (n : ℕ) (s : List ℕ) (i : ℕ) (vs : List ℕ) → n ≤ length s → take n s ++ sets (drop n s) i vs ≡ sets s (n + i) vs
sets-part zero s i vs h = rw zero-add
sets-part (suc n) [] i vs h = absurd (not-suc-le-zero h)
sets-part (suc n) (x ∷ s) i vs h = ap (λ (t : List ℕ). x ∷ t) (sets-part n s i vs (le_of_suc-le-suc h)) ∙ rw suc-add (later x s (n + i) vs)
  where
    later : (x : ℕ) (s : List ℕ) (i : ℕ) (vs : List ℕ) → x ∷ sets s i vs ≡ sets (x ∷ s) (suc i) vs
    later x s i [] = refl
    later x s i (v ∷ vs) = later x (set s i v) (suc i) vs

-- the same as code leaves it that lent the part from n on
pub sets-lent : (n : ℕ) (s : List ℕ) (i : ℕ) (vs : List ℕ) {t : List ℕ} → n ≤ length s → t ≡ sets (take (length s - n) (drop n s)) i vs
    → take n s ++ (t ++ drop (length s - n) (drop n s)) ≡ sets s (n + i) vs
sets-lent n s i vs {t} h e =
    let rest : length (drop n s) ≤ length s - n = rw length-drop (omega arith) in
    ap (λ (u : List ℕ). take n s ++ (t ++ u)) (drop_of_length-le (drop n s) rest)
    ∙ ap (λ (u : List ℕ). take n s ++ u) (append-nil t ∙ e ∙ ap (λ (u : List ℕ). sets u i vs) (take_all (length s - n) (drop n s) rest))
    ∙ sets-part n s i vs h

-- a number that has room, stored as its two halves
halves_stored : (a b n : ℕ) (s : List ℕ) (at : ℕ) → at + (a + b) ≤ length s
    → stored_at b (n / 256 ^ a) (stored_at a (n % 256 ^ a) s at) (at + a) ≡ stored_at (a + b) n s at
halves_stored a b n s at h =
    let first : stored_at a (n % 256 ^ a) s at ≡ sets s at (bytes_of a n) = stored_sets a (n % 256 ^ a) s at (omega arith) ∙ ap (sets s at) (bytes_mod a n) in
    let room : at + a + b ≤ length (stored_at a (n % 256 ^ a) s at) = rw length-stored (omega arith) in
    stored_sets b (n / 256 ^ a) (stored_at a (n % 256 ^ a) s at) (at + a) room
    ∙ ap₂ (λ (t : List ℕ) (i : ℕ). sets t i (bytes_of b (n / 256 ^ a))) first (ap (λ (k : ℕ). at + k) (sym (length-bytes_of a n)))
    ∙ sym (sets-append s at (bytes_of a n) (bytes_of b (n / 256 ^ a)))
    ∙ ap (sets s at) (sym (bytes_halves a b n))
    ∙ sym (stored_sets (a + b) n s at h)

pub stored_halves : (a b n : ℕ) (s : List ℕ) (at : ℕ) {t u : List ℕ} → leb (at + (a + b)) (length s) ≡ true
    → t ≡ stored_at a (n % 256 ^ a) s at → u ≡ stored_at b (n / 256 ^ a) t (at + a) → u ≡ stored_at (a + b) n s at
stored_halves a b n s at e p q =
    q ∙ ap (λ (t : List ℕ). stored_at b (n / 256 ^ a) t (at + a)) p ∙ halves_stored a b n s at (leb-true (at + (a + b)) (length s) e)
