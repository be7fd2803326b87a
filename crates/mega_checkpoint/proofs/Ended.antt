-- The gate behind the records of an area that was read: closed already, or closed now, whole or torn.
use Rattle.std.proofs.Common.{◌≡◌, ◌≢◌, ℕ, ◌+◌, ◌*◌, ◌<◌, true, List, [], ◌∷◌, length, get_or, sym, ◌∙◌, ap, subst, arith}
use Rattle.mega_disk.specs.Images.{overwritten, Torn, Only}
use Rattle.mega_disk.proofs.Steps.{torn_written}
use Rattle.mega_journal.specs.Rest.{IsRead}
use Rattle.mega_journal.proofs.Repaired.{torn_end, closed_end, shut_end, open_end}
use Rattle.mega_areas.specs.declared.area.Areas.{Areas}
use Rattle.mega_areas.specs.Pages.{other_of, pages_in, length_of_pages, is_open, generation_of, chain_in, counts, is_areas}
use Rattle.mega_checkpoint.specs.Format.{list_of}
use Rattle.mega_areas.specs.Places.{Sets}
use Rattle.mega_checkpoint.specs.Held.{HoldsAreas}
use Rattle.mega_checkpoint.proofs.Fronts.{areas_parts, list_counts, length-chain, pages_whole}
use Rattle.mega_checkpoint.proofs.Adding.{Stays, stays, set_keeps, set_chain}

-- the file as it was read
pub record IsAreaRead (file : List ℕ) (areas : Areas) (end : ℕ) : Type 0 where
  pub size : length file ≡ length_of_pages areas.pages
  pub form : is_areas file ≡ true
  pub counting : counts areas.active file ≡ true
  pub number : generation_of areas.active file ≡ areas.generation
  pub other : is_open (other_of areas.active) file ≡ areas.other_open
  pub read : IsRead (chain_in areas.active file) end
  pub inside : 9 + end < 4096 * pages_in (length file)

module _ (file : List ℕ) (areas : Areas) (end : ℕ) (is : IsAreaRead file areas end) where
  chain : List ℕ
  chain = chain_in areas.active file

  within : end < length (chain_in areas.active file)
  within = let there = is.inside in omega (arith, there, length-chain areas.active file)

  pub held_shut : (may_leave : List ℕ → Type 0) → Only file may_leave → get_or (chain_in areas.active file) end 1 ≢ 1 → HoldsAreas file may_leave areas end
  held_shut may_leave durable shut = record {
    size = is.size;
    form = is.form;
    counting = is.counting;
    number = is.number;
    other = is.other;
    at_rest = shut_end (chain_in areas.active file) end is.read within shut;
    durable = durable;
  }

  module _ (one : get_or (chain_in areas.active file) end 1 ≡ 1) (byte : ℕ) (new : List ℕ) (set : Sets areas.active (end + 9) byte file new) where
    new_chain : chain_in areas.active new ≡ overwritten end (byte ∷ []) (chain_in areas.active file)
    new_chain = set_chain areas.active end byte file new (subst (λ (place : ℕ). Sets areas.active place byte file new) (let e : end + 9 ≡ 9 + end = omega arith in e) set) (areas_parts file is.form).0 is.inside

    pub ended_stays : Stays areas.active file new
    ended_stays = stays areas.active (end + 9) file new (set_keeps areas.active (end + 9) (end + 9) byte file new (omega arith) set) (omega arith) is.form is.counting

    pub ended_list : list_of new ≡ list_of file
    ended_list =
        list_counts areas.active new ended_stays.form ended_stays.counting
        ∙ torn_end (chain_in areas.active file) end is.read (open_end (chain_in areas.active file) end is.read within one) (chain_in areas.active new)
        (subst (Torn end 1 (chain_in areas.active file)) (sym new_chain) (torn_written end (byte ∷ []) (chain_in areas.active file) (omega (arith, within))))
        ∙ sym (list_counts areas.active file is.form is.counting)

  pub held_closed : get_or (chain_in areas.active file) end 1 ≡ 1 → (new : List ℕ) (may_leave : List ℕ → Type 0) → Sets areas.active (end + 9) 0 file new → Only new may_leave → HoldsAreas new may_leave areas end
  held_closed one new may_leave set durable =
      let s = ended_stays one 0 new set in
      record {
        size = set.size ∙ is.size;
        form = s.form;
        counting = s.counting;
        number = s.number ∙ is.number;
        other = s.other ∙ is.other;
        at_rest = (closed_end (chain_in areas.active file) end is.read (chain_in areas.active new) (new_chain one 0 new set)).0;
        durable = durable;
      }

pub area_read : (file : List ℕ) (areas : Areas) (end : ℕ) → is_areas file ≡ true → length file ≡ length_of_pages areas.pages → counts areas.active file ≡ true → generation_of areas.active file ≡ areas.generation → is_open (other_of areas.active) file ≡ areas.other_open → IsRead (chain_in areas.active file) end → end + 9 < 4096 * areas.pages → IsAreaRead file areas end
area_read file areas end form size counting number other read inside = record {
  size = size;
  form = form;
  counting = counting;
  number = number;
  other = other;
  read = read;
  inside = let p = ap pages_in size ∙ pages_whole areas.pages in omega (arith, p, inside);
}
