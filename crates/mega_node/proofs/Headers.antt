-- The cluster of an input's header, in which each node has an address.
use Rattle.std.proofs.Common.{◌≡◌, ℕ, Bool, true, false, List, Option, Some, None, Result, Ok, Err, IfOk, refl, sym, ap, subst, ◌∙◌}
use Rattle.mega_cluster.specs.declared.cluster.Cluster.{Cluster}
use Rattle.mega_cluster.specs.Header.{◌>>=◌, read_of}
use Rattle.mega_io.specs.TextLines.{lines_of}
use Rattle.mega_header.specs.Known.{Breaks, HasHeader, HasNoMark, IfKnown}
use Rattle.mega_header.specs.Parts.{cluster_in, header_before}
use Rattle.mega_node.specs.declared.stop.Stop.{Stop}
use Rattle.mega_node.specs.Headers.{IsBroken, IsHeaded, IsRead, addressed}

-- the cluster of what was read is told of the input, and was read from some text
pub record IsFound (least : ℕ) (first : Option (List ℕ)) (c : Cluster) : Type 0 where
  pub told : IfKnown first (λ bytes. cluster_in least bytes ≡ Ok c)
  pub read : IsRead least c

marked : (least : ℕ) (first left : Option (List ℕ)) (text : List ℕ) (c : Cluster) → read_of least text ≡ Ok c → HasHeader first left text → IfKnown first (λ bytes. cluster_in least bytes ≡ Ok c)
marked least None left text c reads header = tt
marked least (Some first) None text c reads header = absurd header
marked least (Some first) (Some left) text c reads header = ap (λ behind. read_of least (header_before first (lines_of first) behind)) header.0.1 ∙ ap (read_of least) header.0.0 ∙ reads

unmarked : (least : ℕ) (first : Option (List ℕ)) (text : List ℕ) (c : Cluster) → read_of least text ≡ Ok c → HasNoMark first text → IfKnown first (λ bytes. cluster_in least bytes ≡ Ok c)
unmarked least None text c reads none = tt
unmarked least (Some first) text c reads none = ap (λ behind. read_of least (header_before first (lines_of first) behind)) none.1 ∙ ap (read_of least) none.0 ∙ reads

pub found : (least : ℕ) (first left : Option (List ℕ)) (c : Cluster) (m : Bool)
    → (m ≡ true → (text : List ℕ) × (read_of least text ≡ Ok c) × HasHeader first left text)
    → (m ≡ false → (text : List ℕ) × (read_of least text ≡ Ok c) × HasNoMark first text) → IsFound least first c
found least first left c true marks none = let r = marks refl in record { told = marked least first left r.0 c r.1 r.2; read = (r.0, r.1) }
found least first left c false marks none = let r = none refl in record { told = unmarked least first r.0 c r.1 r.2; read = (r.0, r.1) }

pub headed : (least : ℕ) (first : Option (List ℕ)) (c : Cluster) → IfKnown first (λ bytes. cluster_in least bytes ≡ Ok c) → addressed c ≡ Ok c → IsHeaded least first c
headed least None c told fits = tt
headed least (Some first) c told fits = ap (λ r. r >>= addressed) told ∙ fits

pub broken : (least : ℕ) (first : Option (List ℕ)) (rule : ℕ) → Breaks least first rule → IsBroken least first rule
broken least None rule breaks = tt
broken least (Some first) rule breaks = ap (λ r. r >>= addressed) breaks

pub ok_headed : (least : ℕ) (first : Option (List ℕ)) (c : Cluster) (made : Result Cluster Stop) → IsFound least first c → IfOk made (λ one. (one ≡ c) × (addressed c ≡ Ok c)) → IfOk made (IsHeaded least first)
ok_headed least first c (Ok one) is fits = subst (IsHeaded least first) (sym fits.0) (headed least first c is.told fits.1)
ok_headed least first c (Err stop) is fits = tt
