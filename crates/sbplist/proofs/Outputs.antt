-- What the program puts into its text is document 01's whole output.
use Rattle.std.proofs.Common.{◌≡◌, ℕ, ◌<◌, ◌≤◌, true, leb, List, [], ◌∷◌, ◌++◌, length, take, drop, sym, ap, ◌∙◌, inl, inr, true≢false, arith, length-append, le-leb, leb-false, leb-true}
use lib.Seq.{take-append_seam}
use borrow.Author.Tests.{lt-leb}
use Rattle.wire.specs.Number.{Bytes}
use Rattle.refusals.specs.Refusals.{refused, given, Answer, leaves, FirstFails}
use Rattle.frame_writer.specs.Writer.{starting_with}
use Rattle.refusals.proofs.Ordered.{exactly_first, exactly_all}
use Rattle.text.specs.Decimal.{digits_of}
use Rattle.text.specs.Line.{line}
use Rattle.listing.specs.Listing.{text_of, most_listed, longest_text, listing, list_answer, with_listing, output}
use Rattle.listing.proofs.Sizes.{text_size}

-- `R 11` and a line's end
abbrev refusal : List ℕ
refusal = 0x52 ∷ 0x20 ∷ 0x31 ∷ 0x31 ∷ 0x0a ∷ []

-- n bytes were put at the start of the text, and they are the output
abbrev pub Put : List ℕ → ℕ → List ℕ → Type 0
Put s n text = (n ≡ length (output s)) × ((take n text ≡ output s) × (n ≤ length text))

module _ (s : List ℕ) where
  -- a listing was given
  given_when : (room n : ℕ) → list_answer s room ≡ given n → (length s ≤ most_listed) × (n ≡ length (text_of s))
  unfolding list_answer
  given_when room n g = let all = (exactly_all (length (text_of s)) (listing s room).tests n).0 g in (leb-true (length s) most_listed all.0.0, sym all.1)

  pub puts_listing : (buf : List ℕ) {n : ℕ} {after : List ℕ} → list_answer s (length buf) ≡ given n → after ≡ with_listing s buf → Put s n after
  puts_listing buf {n} {after} g e =
      let when = given_when (length buf) n g in
      let short : output s ≡ text_of s = rw (le-leb (length s) most_listed when.0) in
      let made_of : after ≡ text_of s ++ drop n buf = e ∙ ap (λ (a : Answer ℕ). leaves (starting_with (text_of s)) a buf) g in
      let front = ap (λ (k : ℕ). take k (text_of s ++ drop n buf)) when.1 ∙ take-append_seam (text_of s) (drop n buf) in
      let size = ap length made_of ∙ length-append (text_of s) (drop n buf) in
      (when.1 ∙ ap length (sym short), (ap (take n) made_of ∙ front ∙ sym short, omega (arith, when.1, size)))

  -- a refusal is that of a longer capture, since the text has room
  refused_when : Bytes s → {room n : ℕ} → longest_text ≤ room → list_answer s room ≡ refused n → most_listed < length s
  unfolding list_answer
  refused_when bytes {room} {n} h r = by ((exactly_first (length (text_of s)) (listing s room).tests n).0 r)
    where
      fits : leb (length s) most_listed ≡ true → leb (length (text_of s)) room ≡ true
      fits e = let short = leb-true (length s) most_listed e in le-leb (length (text_of s)) room (omega (arith, text_size s bytes short, short, h))

      by : FirstFails (listing s room).tests n → most_listed < length s
      by (inl f) = leb-false (length s) most_listed f.0
      by (inr (e, inl f)) = absurd (true≢false (sym (fits e) ∙ f.0))
      by (inr (e, inr f)) = absurd f.1

  pub puts_refusal : (buf : List ℕ) → Bytes s → (same : List ℕ) {n : ℕ} {head : List ℕ} → longest_text ≤ length buf → list_answer s (length buf) ≡ refused n
      → head ≡ refusal → Put s 5 (head ++ drop 5 same)
  unfolding digits_of line
  puts_refusal buf bytes same {head = head} h r e =
      let long = refused_when bytes h r in
      let shown : output s ≡ refusal = rw (lt-leb (length s) most_listed long) in
      let text : head ++ drop 5 same ≡ refusal ++ drop 5 same = ap (λ (front : List ℕ). front ++ drop 5 same) e in
      let size = ap length text ∙ length-append refusal (drop 5 same) in
      (ap length (sym shown), (ap (take 5) text ∙ take-append_seam refusal (drop 5 same) ∙ sym shown, omega (arith, size)))
