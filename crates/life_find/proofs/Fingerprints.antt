-- Outlines of sets that are equal up to a move agree.
use Rattle.std.proofs.Common.{◌≡◌, ◌&&◌, ℕ, true, Option, Some, None, IfSome, refl, sym, ap, subst, ◌∙◌}
use Rattle.std.proofs.lemmas.Bool.Decides.{Decides-and, Decides-eqb, Decides-int_eq}
use Rattle.life_model.specs.Cell.{Cell}
use Rattle.life_model.specs.Generation.{Generation, size}
use Rattle.life_model.specs.Symmetry.{normal}
use Rattle.life_plane.specs.Span.{set_span}
use Rattle.life_plane.proofs.Spans.{set_span_by_shape}
use Rattle.life_find.specs.declared.fingerprint.Fingerprint.{Fingerprint}
use Rattle.life_find.specs.Fingerprint.{IsFingerprint, may_match, counts_agree, spans_agree}
use Rattle.life_answer.proofs.Sizes.{size_by_shape}

one_span : (s t : Option Cell) (c : Cell) → IfSome s (λ x. x ≡ c) → IfSome t (λ x. x ≡ c) → spans_agree s t ≡ true
one_span None t c h k = refl
one_span (Some a) None c h k = refl
one_span (Some a) (Some b) c h k =
    let same : a ≡ b = h ∙ sym k in
    (Decides-and _ _ (Decides-int_eq a.0 b.0) (Decides-int_eq a.1 b.1)).1 (ap (λ x. x.0) same, ap (λ x. x.1) same)

one_count : (s t : Option ℕ) (n : ℕ) → IfSome s (λ x. x ≡ n) → IfSome t (λ x. x ≡ n) → counts_agree s t ≡ true
one_count None t n h k = refl
one_count (Some a) None n h k = refl
one_count (Some a) (Some b) n h k = (Decides-eqb a b).1 (h ∙ sym k)

pub agree_by_shape : (G H : Generation) (a b : Fingerprint) → normal G ≡ normal H → IsFingerprint G a → IsFingerprint H b → may_match a b ≡ true
agree_by_shape G H a b e one other =
    let populations = one_count a.population b.population (size G) one.population (subst (λ n. IfSome b.population (λ x. x ≡ n)) (sym (size_by_shape G H e)) other.population) in
    let spans = one_span a.span b.span (set_span G) one.span (subst (λ c. IfSome b.span (λ x. x ≡ c)) (sym (set_span_by_shape G H e)) other.span) in
    λ i. populations i && spans i

two_spans : (s t : Option Cell) (c d : Cell) → c ≡ d → IfSome s (λ x. x ≡ c) → IfSome t (λ x. x ≡ d) → IfSome s (λ x. IfSome t (λ y. x ≡ y))
two_spans None t c d e h k = tt
two_spans (Some a) None c d e h k = tt
two_spans (Some a) (Some b) c d e h k = h ∙ e ∙ sym k

pub spans_by_shape : (G H : Generation) (a b : Fingerprint) → normal G ≡ normal H → IsFingerprint G a → IsFingerprint H b → IfSome a.span (λ s. IfSome b.span (λ t. s ≡ t))
spans_by_shape G H a b e one other = two_spans a.span b.span (set_span G) (set_span H) (set_span_by_shape G H e) one.span other.span
