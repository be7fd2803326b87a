-- What a durable store says of stores that are not.
use Rattle.std.proofs.Common.{◌≡◌, true, false}

pub true_false : {X : Type 0} → true ≡ false → X
true_false e = absurd (cc)
