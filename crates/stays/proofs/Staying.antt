-- What open reading hands out stays: of one call, and of all calls from the start on.
use mathlib.Core.Path.{◌≡◌, refl, sym, ap, ap₂, ◌∙◌, subst, subst⁻¹}
use mathlib.Core.Bool.{true}
use mathlib.Core.List.{List, [], ◌∷◌, ◌++◌, map, map-append}
use Prim.Native.Nat.{ℕ, ◌+◌, ◌^◌, ◌<◌}
use native.Mathlib.Omega.{arith}
use lib.ListN.{length, length-append}
use Rattle.frames.specs.Step.{payload_in}
use Rattle.frames.specs.Reading.{stops, closed_steps, open_steps}
use Rattle.frames.specs.Cursors.{over, ended, next_of, after, Led, start, more}
use Rattle.stays.specs.Stays.{Leads, Stands, Stays}
use Rattle.frames.specs.declared.step.Step.{Step}
use Rattle.frames.specs.declared.step.Step.TheVariants.{Finished, Junk, Short, Bad, Found}
use Rattle.frames.specs.declared.step.Frame.{Frame}
use Rattle.frames.specs.declared.cursor.Cursor.{Cursor}
use Rattle.frames.specs.declared.cursor.Next as Next
use Rattle.frames.proofs.Frames.{found_at, found_fits}
use Rattle.frames.proofs.GoingOn.{here, Answered, pass, end, passed_on, answered, next_given, next_kept}
use Rattle.frames.proofs.NextAnswers.{led}
use Rattle.stays.proofs.Longer.{same_part, same_step, lead, lead_closed}

-- ---- what an answer on s keeps on t

module _ (s t : List ℕ) where
  abbrev pub SamePayload : Next.Next → Type 0
  SamePayload (Next.TheVariants.Frame f d) = payload_in t f ≡ payload_in s f
  SamePayload (Next.TheVariants.End d) = Unit {0}
  SamePayload (Next.TheVariants.Needs n d) = Unit {0}

  pub record Lasting (c : Cursor) (n : Next.Next) : Type 0 where
    pub stands : Stands t c n
    pub payload : SamePayload n
    pub mode : (after n).opened ≡ true

-- where asking with d answers what asking with c does
stands_before : (t : List ℕ) (c d : Cursor) → next_of t d ≡ next_of t c → (n : Next.Next) → Stands t d n → Stands t c n
stands_before t c d e (Next.TheVariants.Frame f k) q = sym e ∙ q
stands_before t c d e (Next.TheVariants.End k) q = q ∙ e
stands_before t c d e (Next.TheVariants.Needs n k) q = q ∙ e

module _ (s rest : List ℕ) (small : length (s ++ rest) < 2 ^ 64) where
  abbrev longer : List ℕ
  longer = s ++ rest

  lasting_by : {c : Cursor} {n : Next.Next} → Answered true s c n → c.opened ≡ true → Lasting s longer c n
  unfolding payload_in
  lasting_by (pass {c = c} {n = n} e a) m =
      let on = lasting_by a m in
      let step = same_step s rest c.at (passed_on true (here s c) e) in
      record {
        stands = stands_before longer c (over c (here s c)) (next_kept longer small c (sym step) refl (rw m e)) n on.stands;
        payload = on.payload;
        mode = on.mode;
      }
  lasting_by (end {c = c} e) m = at (here s c) refl
    where
      at : (x : Step) → here s c ≡ x → Lasting s longer c (ended c x)
      at Finished q = record { stands = refl; payload = tt; mode = m }
      at Junk q = record { stands = refl; payload = tt; mode = m }
      at (Short n) q = record { stands = refl; payload = tt; mode = m }
      at Bad q = record { stands = refl; payload = tt; mode = m }
      at (Found f) q = record {
        stands = sym (next_given longer small c (sym q ∙ sym (same_step s rest c.at (ap (stops true) q))) refl refl);
        payload = same_part s rest (f.at + 6) f.length (omega (arith, found_at s c.at q, found_fits s c.at q));
        mode = m;
      }

  lasting_longer : (c : Cursor) → c.opened ≡ true → Lasting s longer c (next_of s c)
  lasting_longer c m = lasting_by (answered s (omega (arith, length-append s rest)) true c m) m

module _ (s t : List ℕ) (leads : Leads s t) (small : length t < 2 ^ 64) where
  pub lasting : (c : Cursor) → c.opened ≡ true → Lasting s t c (next_of s c)
  lasting c m =
      subst⁻¹ (λ (u : List ℕ). Lasting s u c (next_of s c)) leads.1
      (lasting_longer s leads.0 (subst (λ (u : List ℕ). length u < 2 ^ 64) leads.1 small) c m)

  -- ---- all calls from the start on

  s_small : length s < 2 ^ 64
  s_small = omega (arith, ap length leads.1, length-append s leads.0)

  kept : {fs : List Frame} {c : Cursor} → Led true s fs c → Led true t fs c × (map (payload_in t) fs ≡ map (payload_in s) fs)
  kept start = (start, refl)
  kept (more {fs = fs} {c = c} {f = f} l e) =
      let before = kept l in
      let last = subst (Lasting s t c) e (lasting c (led s s_small true l).0.mode) in (
        more before.0 last.stands,
        map-append (payload_in t) fs (f ∷ [])
            ∙ ap₂ (λ (ps : List (List ℕ)) (p : List ℕ). ps ++ p ∷ []) before.1 last.payload
            ∙ sym (map-append (payload_in s) fs (f ∷ [])),
      )

pub stays : Stays
stays = record {
  steps_lead = λ s t leads. subst⁻¹ (λ (u : List ℕ). Leads (open_steps s) (open_steps u)) leads.1 (lead s leads.0);
  closed_begins = λ s t leads. subst⁻¹ (λ (u : List ℕ). Leads (open_steps s) (closed_steps u)) leads.1 (lead_closed s leads.0);
  answer_stands = λ s t leads small c m. (lasting s t leads small c m).stands;
  frames_stay = λ s t leads small fs c l. kept s t leads small l;
}
