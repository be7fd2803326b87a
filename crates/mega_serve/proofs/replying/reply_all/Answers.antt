use Rattle.std.proofs.Common.{◌≡◌, ◌∷◌, ◌++◌, ◌∙◌, [], List, ap, append-nil, map, refl, rules, subst, sym}
use Rattle.std.specs.Vec.Iter.{into_iter_items, into_iter_len}
use Rattle.std.proofs.lemmas.List.{nil_from_length}
use Rattle.mega_page.specs.Pages.{IsPage}
use Rattle.mega_serve.specs.declared.replying.Reply.{Reply}
use Rattle.mega_serve.specs.Replies.{put_reply}
use Rattle.mega_serve.proofs.Gathered.{next_on}
use Rattle.mega_rules.proofs.Left.{one_less}
use Rattle.mega_serve.proofs.replying.reply_all.Goals as goal

pub loop-one-init : goal.loop-one-init
loop-one-init c = record {
  count = search rules;
  given = λ schema lines page. (lines, (refl, page));
}

pub loop-one-preserved : goal.loop-one-preserved
loop-one-preserved c = record {
  count = one_less (into_iter_items c.loop-one.one-iterator) (into_iter_items c.next.new.self) c.in-Some.one (into_iter_len c.loop-one.one-iterator) (into_iter_len c.next.new.self) c.loop-one.invariant.count c.in-Some.ensures.steps.0 c.in-Some.ensures.steps.1;
  given = λ schema lines page.
      let so_far = c.loop-one.invariant.given schema lines page in
      let put = put_reply c.args.me in
      (so_far.0 ++ put c.in-Some.one ∷ [], (next_on so_far.0 _ (put c.in-Some.one) (map put (into_iter_items c.loop-one.one-iterator)) (map put (into_iter_items c.next.new.self)) so_far.1.0 (ap (map put) c.in-Some.ensures.steps.0), c.in_ok-give_reply.ensures schema so_far.0 so_far.1.1));
}

pub returns : goal.returns
returns c = λ schema lines page.
    let so_far = c.loop-one.invariant.given schema lines page in
    let put = put_reply c.args.me in
    let none : into_iter_items c.loop-one.one-iterator ≡ [] = nil_from_length (into_iter_items c.loop-one.one-iterator) (sym c.loop-one.invariant.count ∙ c.in-None.ensures.steps.0) in
    subst (IsPage schema c.loop-one.page)
    (sym (append-nil so_far.0) ∙ ap (λ (left : List Reply). so_far.0 ++ map put left) (sym none) ∙ so_far.1.0 ∙ ap (λ (all : List Reply). lines ++ map put all) c.into_iter-one-iterator.ensures.into_iter_gives.0)
    so_far.1.1
