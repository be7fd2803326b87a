-- Clauses on what a last call answers.
use Rattle.std.proofs.Common.{Result, Ok, Err}
use Rattle.std.specs.Prelude.{OnOk, OnErr, IfErr}

pub on_err : {X E : Type 0} (r : Result X E) (P : Type 0) → P → OnErr r P
on_err (Ok x) P p = tt
on_err (Err e) P p = p

pub if_err : {X E : Type 0} (r : Result X E) (P : E → Type 0) → ((e : E) → P e) → IfErr r P
if_err (Ok x) P all = tt
if_err (Err e) P all = all e

pub ok_then : {X E : Type 0} (r : Result X E) (P Q : Type 0) → (P → Q) → OnOk r P → OnOk r Q
ok_then (Ok x) P Q more held = more held
ok_then (Err e) P Q more held = tt

pub err_then : {X E : Type 0} (r : Result X E) (P : Type 0) (Q : E → Type 0) → (P → (e : E) → Q e) → OnErr r P → IfErr r Q
err_then (Ok x) P Q more held = tt
err_then (Err e) P Q more held = more held e
