-- A text that is put piece by piece.
use Rattle.std.proofs.Common.{◌≡◌, ℕ, List, ◌++◌, ap, ◌∙◌, append_assoc}

step : (out o new front text more : List ℕ) → o ≡ out ++ (front ++ text) → new ≡ o ++ more → new ≡ out ++ (front ++ (text ++ more))
step out o new front text more put last = last ∙ ap (λ xs. xs ++ more) put ∙ append_assoc out (front ++ text) more ∙ ap (λ xs. out ++ xs) (append_assoc front text more)

pub joined : (out o p q new a x b y c z last : List ℕ) → o ≡ out ++ (a ++ x) → p ≡ o ++ (b ++ y) → q ≡ p ++ (c ++ z) → new ≡ q ++ last → new ≡ out ++ (a ++ (x ++ (b ++ (y ++ (c ++ (z ++ last))))))
joined out o p q new a x b y c z last first second third end =
    step out o new a x (b ++ (y ++ (c ++ (z ++ last)))) first (step o p new b y (c ++ (z ++ last)) second (step p q new c z last third end))
