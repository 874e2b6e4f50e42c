-- Calls of `next` while a capture grows, as its contract has them: what they have shown stays, and going on is starting over.
use mathlib.Core.Path.{◌≡◌, refl, sym, ap, ap₂, ◌∙◌, subst}
use mathlib.Core.Bool.{true}
use mathlib.Core.List.{List, [], ◌∷◌, ◌++◌, map}
use Prim.Native.Nat.{ℕ, ◌^◌, ◌<◌}
use native.Mathlib.Omega.{arith}
use seplogic.Ra.Ura.{Ura}
use base.Logic.{SProp, ent}
use prog.Memory.{Memory}
use prog.Routine.{Routine}
use types.Logic.{Logic}
use contract.Monad.{Fun, fact, fact_use, fact_i}
use lib.ListN.{length, length-map}
use Rattle.frames.specs.Cursors.{begun, next_of, after}
use Rattle.stays.specs.Stays.{Leads}
use Rattle.stays.specs.Watching.{Call, answers, Shown, shown, shown_by, screen, Calls, CallsStay}
use Rattle.frames.specs.declared.step.Frame.{Frame}
use Rattle.frames.specs.declared.cursor.Cursor.{Cursor}
use Rattle.frames.specs.declared.cursor.Next as Next
use Rattle.frames.specs.contracts.cursor.Cursor.next as next
use Rattle.stays.proofs.Staying.{Lasting, lasting}

-- calls that have answered as the definition says
abbrev Made : (List ℕ → Type 0) → Cursor → List Call → Cursor → Type 0
Made Lent c [] d = c ≡ d
Made Lent c (k ∷ ks) d = Lent k.capture.now × (k.answer ≡ next_of k.capture.now c) × Made Lent (after k.answer) ks d

module _ (t : List ℕ) (small : length t < 2 ^ 64) where
  -- calls on t from c on hand out these frames, one a call, and come to e
  abbrev Hands : Cursor → List Frame → Cursor → Type 0
  Hands c [] e = c ≡ e
  Hands c (f ∷ fs) e = (d : Cursor) × (next_of t c ≡ Next.TheVariants.Frame f d) × Hands d fs e

  -- shown while t grew, by calls from c to d: frames that calls on t hand out, after which both go on to the same
  pub record Same (c : Cursor) (ss : List Shown) (d : Cursor) : Type 0 where
    pub frames : List Frame
    pub last : Cursor
    pub hands : Hands c frames last
    pub shows : ss ≡ map (shown t) frames
    pub onward : next_of t d ≡ next_of t last

  -- a call that has shown no frame changes nothing
  same_before : (c e : Cursor) (ss : List Shown) (d : Cursor) → next_of t e ≡ next_of t c → Same e ss d → Same c ss d
  same_before c e ss d q x = by x.frames x.hands x.shows
    where
      by : (fs : List Frame) → Hands e fs x.last → ss ≡ map (shown t) fs → Same c ss d
      by [] h shows = record { frames = []; last = c; hands = refl; shows = shows; onward = x.onward ∙ ap (next_of t) (sym h) ∙ q }
      by (f ∷ fs) h shows = record { frames = f ∷ fs; last = x.last; hands = (h.0, sym q ∙ h.1, h.2); shows = shows; onward = x.onward }

  -- one call more in front
  same_call : (s : List ℕ) (c d : Cursor) (ss : List Shown) (n : Next.Next) → Lasting s t c n → Same (after n) ss d → Same c (shown_by s n ++ ss) d
  same_call s c d ss (Next.TheVariants.Frame f b) l x = record {
    frames = f ∷ x.frames;
    last = x.last;
    hands = (b, l.stands, x.hands);
    shows = ap₂ (λ (p : List ℕ) (rest : List Shown). record { frame = f; payload = p } ∷ rest) (sym l.payload) x.shows;
    onward = x.onward;
  }
  same_call s c d ss (Next.TheVariants.End b) l x = same_before c b ss d l.stands x
  same_call s c d ss (Next.TheVariants.Needs n b) l x = same_before c b ss d l.stands x

  same : (c : Cursor) (ks : List Call) (d : Cursor) → c.opened ≡ true → Made (λ s. Leads s t) c ks d → Same c (screen ks) d
  same c [] d m e = record { frames = []; last = c; hands = refl; shows = refl; onward = ap (next_of t) (sym e) }
  same c (k ∷ ks) d m (leads, given, rest) =
      let s = k.capture.now in
      let lasts = subst (Lasting s t c) (sym given) (lasting s t leads small c m) in
      same_call s c d (screen ks) k.answer lasts (same (after k.answer) ks d lasts.mode rest)

  -- as many calls on t show these frames, and come to the same cursor
  shows_all : (c : Cursor) (fs : List Frame) (e : Cursor) (ks : List Call) (d : Cursor) → Hands c fs e → Made (λ s. s ≡ t) c ks d → length ks ≡ length fs
      → (screen ks ≡ map (shown t) fs) × (d ≡ e)
  shows_all c [] e [] d h made n = (refl, sym made ∙ h)
  shows_all c [] e (k ∷ ks) d h made n = absurd (omega arith)
  shows_all c (f ∷ fs) e [] d h made n = absurd (omega arith)
  shows_all c (f ∷ fs) e (k ∷ ks) d (b, h, hs) (on, asked, rest) n =
      let given : k.answer ≡ Next.TheVariants.Frame f b = asked ∙ ap (λ (s : List ℕ). next_of s c) on ∙ h in
      let others = shows_all b fs e ks d hs (subst (λ (a : Next.Next). Made (λ s. s ≡ t) (after a) ks d) given rest) (omega arith) in
      (ap₂ (λ (s : List ℕ) (a : Next.Next). shown_by s a ++ screen ks) on given ∙ ap (λ (ss : List Shown). shown t f ∷ ss) others.0, others.1)

  -- calls on t with cursors that go on to the same answer the same
  same_answers : (c d : Cursor) (ks js : List Call) (e f : Cursor) → next_of t c ≡ next_of t d → Made (λ s. s ≡ t) c ks e → Made (λ s. s ≡ t) d js f
      → length ks ≡ length js → answers ks ≡ answers js
  same_answers c d [] [] e f q x y n = refl
  same_answers c d [] (j ∷ js) e f q x y n = absurd (omega arith)
  same_answers c d (k ∷ ks) [] e f q x y n = absurd (omega arith)
  same_answers c d (k ∷ ks) (j ∷ js) e f q (on, asked, x) (there, given, y) n =
      let first : k.answer ≡ j.answer = asked ∙ ap (λ (s : List ℕ). next_of s c) on ∙ q ∙ ap (λ (s : List ℕ). next_of s d) (sym there) ∙ sym given in
      ap₂ (λ (a : Next.Next) (rest : List Next.Next). a ∷ rest) first
      (same_answers (after k.answer) (after j.answer) ks js e f (ap (λ (a : Next.Next). next_of t (after a)) first) x y (omega arith))

  -- ---- both together

  module _ (early over : List Call) (c d : Cursor) (watched : Made (λ s. Leads s t) (begun true) early c) (made : Made (λ s. s ≡ t) (begun true) over d) (n : length over ≡ length (screen early)) where
    seen : Same (begun true) (screen early) c
    seen = same (begun true) early c refl watched

    again : (screen over ≡ map (shown t) seen.frames) × (d ≡ seen.last)
    again = shows_all (begun true) seen.frames seen.last over d seen.hands made (n ∙ ap length seen.shows ∙ length-map seen.frames (shown t))

    same_screen : screen over ≡ screen early
    same_screen = again.0 ∙ sym seen.shows

    same_onward : next_of t c ≡ next_of t d
    same_onward = seen.onward ∙ ap (next_of t) (sym again.1)

-- ---- as a contract has them

module _ {M : Type 1} (𝓤 : Ura M) where
  -- the definition that the contract cites
  abbrev asked : Call → SProp 𝓤
  asked k = fact 𝓤 (k.answer ≡ next_of k.capture.now k.cursor)

  module _ (P : SProp 𝓤) where
    made_by : (Lent : List ℕ → Type 0) (c : Cursor) (ks : List Call) (d : Cursor) → Calls 𝓤 asked P Lent c ks d → ent 𝓤 P (fact 𝓤 (Made Lent c ks d))
    made_by Lent c [] d (e, _) = fact_i 𝓤 (c ≡ d) P e
    made_by Lent c (k ∷ ks) d (begins, lent, ended, rest) =
        fact_use 𝓤 (k.answer ≡ next_of k.capture.now k.cursor) ended
        (λ q. fact_use 𝓤 (Made Lent (after k.answer) ks d) (made_by Lent (after k.answer) ks d rest)
        (λ r. fact_i 𝓤 (Made Lent c (k ∷ ks) d) P (lent, q ∙ ap (next_of k.capture.now) begins, r)))

    -- what follows from two such runs of calls
    from_both : (Lent There : List ℕ → Type 0) (c d : Cursor) (ks js : List Call) (e f : Cursor) (Q : SProp 𝓤)
        → Calls 𝓤 asked P Lent c ks e → Calls 𝓤 asked P There d js f → (Made Lent c ks e → Made There d js f → ent 𝓤 P Q) → ent 𝓤 P Q
    from_both Lent There c d ks js e f Q x y then =
        fact_use 𝓤 (Made Lent c ks e) (made_by Lent c ks e x) (λ q. fact_use 𝓤 (Made There d js f) (made_by There d js f y) (λ r. then q r))

  -- so of every function whose contract is that definition
  pub asked_stay : CallsStay 𝓤 asked
  asked_stay = record {
    screen_stays = λ P t small early over c d w o n.
        from_both P (λ s. Leads s t) (λ s. s ≡ t) (begun true) (begun true) early over c d (fact 𝓤 (screen over ≡ screen early)) w o
        (λ watched made. fact_i 𝓤 (screen over ≡ screen early) P (same_screen t small early over c d watched made n));
    goes_on = λ P t small early over c d w o n on more e f x y k.
        from_both P (λ s. Leads s t) (λ s. s ≡ t) (begun true) (begun true) early over c d (fact 𝓤 (answers on ≡ answers more)) w o
        (λ watched made. from_both P (λ s. s ≡ t) (λ s. s ≡ t) c d on more e f (fact 𝓤 (answers on ≡ answers more)) x y
        (λ q r. fact_i 𝓤 (answers on ≡ answers more) P (same_answers t small c d on more e f (same_onward t small early over c d watched made n) q r k)));
  }

-- and so of `next`
module _ {M : Type 1} {𝓤 : Ura M} (𝓛 : Logic 𝓤) (mem : Memory → SProp 𝓤) (run : Routine → Fun 𝓤) where
  pub calls_stay : CallsStay 𝓤 (λ k. (next.clauses 𝓛 mem run k.lives (k.cursor, (k.capture, tt))).ensures tt k.answer (k.cursor, (k.capture, tt)))
  calls_stay = asked_stay 𝓤
