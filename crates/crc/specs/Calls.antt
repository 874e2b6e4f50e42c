-- The law of parts (Parts.antt), and what a CRC is (Remainder.antt), said of calls, as the contract of a CRC function has them: a contract that
-- ignores the start, resets at an empty part or has another polynomial does not have them.
use Rattle.std.specs.Prelude.{ℕ, ◌*◌, ◌^◌, ◌<◌, ◌≡◌, length}
use mathlib.Core.List.{List, [], ◌∷◌, map, flatten}
use seplogic.Ra.Ura.{Ura}
use base.Logic.{SProp, ent}
use contract.Lifetimes.{Lfts}
use contract.Monad.{fact}
use Rattle.std.specs.Borrow.{Bor}
use Rattle.std.specs.Int.Bits.{bit_xor}
use Rattle.crc.specs.Remainder.{Bytes, with_bytes, Leaves}

-- a call: where it was to begin, the bytes that it was lent and for how long, what it answered
pub record Call : Type 0 where
  pub lives : Lfts 1
  pub start : ℕ
  pub bytes : Bor (List ℕ)
  pub answer : ℕ

-- calls one after the other, the first begun at c, each other at the answer of the one before; d is the last answer
abbrev pub Chained : ℕ → List Call → ℕ → Type 0
Chained c [] d = c ≡ d
Chained c (k ∷ ks) d = (k.start ≡ c) × Chained k.answer ks d

-- at a model of the logic, with what the function's contract ensures of a call
module _ {M : Type 1} (𝓤 : Ura M) (ensured : Call → SProp 𝓤) where
  -- where P holds, each call has ended as the contract says
  abbrev pub AllEnded : SProp 𝓤 → List Call → Type 1
  AllEnded P [] = Unit {1}
  AllEnded P (k ∷ ks) = ent 𝓤 P (ensured k) × AllEnded P ks

  -- a call on parts joined answers what calls on the parts, chained, came to
  abbrev pub CallsGoOn : Type 2
  CallsGoOn = (P : SProp 𝓤) (whole : Call) (parts : List Call) (d : ℕ) → Chained whole.start parts d
      → whole.bytes.now ≡ flatten (map (λ (k : Call). k.bytes.now) parts)
      → ent 𝓤 P (ensured whole)
      → AllEnded P parts
      → ent 𝓤 P (fact 𝓤 (whole.answer ≡ d))

  -- a call answers what its bytes leave, its start added to the first two
  abbrev pub CallsLeave : Type 2
  CallsLeave = (P : SProp 𝓤) (k : Call) → k.start < 65536 → Bytes k.bytes.now
      → ent 𝓤 P (ensured k)
      → ent 𝓤 P (fact 𝓤 (Leaves (bit_xor (k.start * 2 ^ (8 * length k.bytes.now)) (with_bytes 0 k.bytes.now * 65536)) k.answer))
