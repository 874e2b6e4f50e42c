-- Calls of `crc` go on, each from the answer of the one before, and answer what bytes leave, as its contract has them.
use mathlib.Core.Path.{◌≡◌, sym, ap, ◌∙◌}
use mathlib.Core.List.{List, [], ◌∷◌, map, foldl}
use Prim.Native.Nat.{ℕ, ◌*◌, ◌^◌}
use seplogic.Ra.Ura.{Ura}
use base.Logic.{SProp, ent}
use prog.Memory.{Memory}
use prog.Routine.{Routine}
use types.Logic.{Logic}
use contract.Monad.{Fun, fact, fact_use, fact_i}
use lib.Bits.{bit_xor}
use lib.ListN.{length}
use Rattle.crc.specs.Crc.{crc_from}
use Rattle.crc.specs.Remainder.{with_bytes, Leaves}
use Rattle.crc.specs.Calls.{Call, Chained, AllEnded, CallsGoOn, CallsLeave}
use Rattle.crc.specs.contracts.crc as crc
use Rattle.crc.proofs.Joined.{all_joined}
use Rattle.crc.proofs.Remainders.{is_remainder}

-- the bytes that calls were lent
abbrev lent : List Call → List (List ℕ)
lent = map (λ (k : Call). k.bytes.now)

module _ {M : Type 1} (𝓤 : Ura M) where
  -- the definition that a contract cites
  abbrev sums : Call → SProp 𝓤
  sums k = fact 𝓤 (k.answer ≡ crc_from k.start k.bytes.now)

  chained : (P : SProp 𝓤) (c : ℕ) (ks : List Call) (d : ℕ) → Chained c ks d → AllEnded 𝓤 sums P ks → ent 𝓤 P (fact 𝓤 (foldl crc_from c (lent ks) ≡ d))
  chained P c [] d e all = fact_i 𝓤 (c ≡ d) P e
  chained P c (k ∷ ks) d (begins, e) (ended, all) =
      fact_use 𝓤 (k.answer ≡ crc_from k.start k.bytes.now) ended
      (λ q. fact_use 𝓤 (foldl crc_from k.answer (lent ks) ≡ d) (chained P k.answer ks d e all)
      (λ r. fact_i 𝓤 (foldl crc_from c (lent (k ∷ ks)) ≡ d) P
      (ap (λ (x : ℕ). foldl crc_from x (lent ks)) (ap (λ (x : ℕ). crc_from x k.bytes.now) (sym begins) ∙ sym q) ∙ r)))

  -- so of every function whose contract is that definition
  pub sums_go_on : CallsGoOn 𝓤 sums
  sums_go_on P whole parts d e bytes ended all =
      fact_use 𝓤 (whole.answer ≡ crc_from whole.start whole.bytes.now) ended
      (λ q. fact_use 𝓤 (foldl crc_from whole.start (lent parts) ≡ d) (chained P whole.start parts d e all)
      (λ r. fact_i 𝓤 (whole.answer ≡ d) P (q ∙ ap (crc_from whole.start) bytes ∙ all_joined whole.start (lent parts) ∙ r)))

  pub sums_leave : CallsLeave 𝓤 sums
  sums_leave P k h bytes ended =
      let s = k.bytes.now in
      let n = bit_xor (k.start * 2 ^ (8 * length s)) (with_bytes 0 s * 65536) in
      fact_use 𝓤 (k.answer ≡ crc_from k.start s) ended (λ q. fact_i 𝓤 (Leaves n k.answer) P (rw q (is_remainder.begun k.start s h bytes)))

-- and so of `crc`
module _ {M : Type 1} {𝓤 : Ura M} (𝓛 : Logic 𝓤) (mem : Memory → SProp 𝓤) (run : Routine → Fun 𝓤) where
  pub calls_go_on : CallsGoOn 𝓤 (λ k. (crc.clauses 𝓛 mem run k.lives (k.start, (k.bytes, tt))).ensures tt k.answer (k.start, (k.bytes, tt)))
  calls_go_on = sums_go_on 𝓤

  pub calls_leave : CallsLeave 𝓤 (λ k. (crc.clauses 𝓛 mem run k.lives (k.start, (k.bytes, tt))).ensures tt k.answer (k.start, (k.bytes, tt)))
  calls_leave = sums_leave 𝓤
