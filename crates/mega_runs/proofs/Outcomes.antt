-- Facts about what a call returned.
use Rattle.std.specs.Prelude.{Option, Some, None, Result, Ok, Err, IfOk, IfSome, OnOk}

pub if_ok : {T E P Q : Type 0} (r : Result T E) → (P → Q) → OnOk r P → OnOk r Q
if_ok (Ok x) f p = f p
if_ok (Err e) f p = tt

pub if_found : {T E : Type 0} (P Q : T → Type 0) (r : Result (Option T) E) → ((x : T) → P x → Q x) → IfOk r (λ found. IfSome found P) → IfOk r (λ found. IfSome found Q)
if_found P Q (Ok (Some x)) f p = f x p
if_found P Q (Ok None) f p = tt
if_found P Q (Err e) f p = tt
