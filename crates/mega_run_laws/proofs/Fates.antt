-- What becomes of a step or a start is what may become of it.
use Rattle.std.proofs.Common.{◌≡◌, ℕ, ◌&&◌, cond, not, Bool, true, false, Option, Some, None, refl, ap, ◌∙◌}
use Rattle.std.proofs.lemmas.Bool.{or_right}
use Rattle.mega_tape_laws.specs.of_promises.Runs.{AsItWas, Calls, CutByData, CutByLog, Fate, Fuse, MayBecome, Standing, Whole, fate_of, is_burning, may_become}

first_true : (a b : Bool) → (a && b) ≡ true → a ≡ true
first_true true b h = refl
first_true false b h = cc

second_true : (a b : Bool) → (a && b) ≡ true → b ≡ true
second_true true b h = h
second_true false b h = cc

-- where nothing else may be, it is whole, or is cut at its append
else_may : (calls : Calls) (log rows : Option Fuse) (t : Bool) → (calls.appends && is_burning log) ≡ t → may_become calls log rows (cond t (CutByLog AsItWas) Whole) ≡ true
else_may calls log rows false e = ap not e
else_may calls None rows true e = absurd (let none = second_true calls.appends false e in cc)
else_may calls (Some fuse) rows true e = or_right calls.compacts calls.appends (first_true calls.appends (is_burning (Some fuse)) e)

pub fate_may : (now : Standing) (me : ℕ) (calls : Calls) (cut : Fate) → MayBecome now me calls (fate_of now me calls cut)
fate_may now me calls cut = by (may_become calls (now.log_fuse me) (now.data_fuse me) cut) refl
  where
    by : (t : Bool) → may_become calls (now.log_fuse me) (now.data_fuse me) cut ≡ t
        → may_become calls (now.log_fuse me) (now.data_fuse me) (cond t cut (cond (calls.appends && is_burning (now.log_fuse me)) (CutByLog AsItWas) Whole)) ≡ true
    by true e = e
    by false e = else_may calls (now.log_fuse me) (now.data_fuse me) (calls.appends && is_burning (now.log_fuse me)) refl

pub fate_is : (now : Standing) (me : ℕ) (calls : Calls) (cut : Fate) → MayBecome now me calls cut → fate_of now me calls cut ≡ cut
fate_is now me calls cut may = ap (λ t. cond t cut (cond (calls.appends && is_burning (now.log_fuse me)) (CutByLog AsItWas) Whole)) may

-- where no fuse is set, all is whole
never : (a : Bool) → (a && false) ≡ false
never true = refl
never false = refl

pub unfused_whole : (now : Standing) (me : ℕ) (calls : Calls) (cut : Fate) → now.log_fuse me ≡ None → now.data_fuse me ≡ None → fate_of now me calls cut ≡ Whole
unfused_whole now me calls cut no_log no_data =
    ap (λ fuse. cond (may_become calls fuse (now.data_fuse me) cut) cut (cond (calls.appends && is_burning fuse) (CutByLog AsItWas) Whole)) no_log
    ∙ ap (λ fuse. cond (may_become calls None fuse cut) cut (cond (calls.appends && false) (CutByLog AsItWas) Whole)) no_data
    ∙ by cut
  where
    by : (cut : Fate) → cond (may_become calls None None cut) cut (cond (calls.appends && false) (CutByLog AsItWas) Whole) ≡ Whole
    by Whole = ap (λ t. cond (not t) Whole (cond t (CutByLog AsItWas) Whole)) (never calls.appends)
    by (CutByLog left) = ap (λ t. cond t (CutByLog AsItWas) Whole) (never calls.appends)
    by (CutByData left) = ap (λ t. cond t (CutByLog AsItWas) Whole) (never calls.appends)
