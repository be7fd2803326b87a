-- What tells the messages of a read apart: their kinds, and the positions that they ask for.
use Rattle.std.proofs.Common.{◌≡◌, ℕ, ◌==◌, false, sym, ap, ◌∙◌}
use Rattle.mega_wire.specs.declared.message.Message.{Message}
use Rattle.mega_wire.specs.declared.message.Body.{Body}
use Rattle.mega_wire.specs.declared.message.Body.TheVariants.{Fetch, Have, HaveNot, Top, Where}
use Rattle.mega_calm_laws.proofs.Mail.{number_self}

abbrev pub kind : Body → ℕ
kind (Where o g) = 1
kind (Top o g n) = 2
kind (Fetch o g n) = 3
kind (Have o g n e) = 4
kind (HaveNot o g n) = 5
kind _ = 0

abbrev pub kind_of_message : Message → ℕ
kind_of_message m = kind m.body

abbrev pub place_in : Body → ℕ
place_in (Fetch o g n) = n.0
place_in (Have o g n e) = n.0
place_in _ = 0

pub clash : (a b : ℕ) → a ≡ b → (a == b) ≡ false → ⊥
clash a b e apart = let same = sym (ap (λ x. x == b) e ∙ number_self b) ∙ apart in cc
