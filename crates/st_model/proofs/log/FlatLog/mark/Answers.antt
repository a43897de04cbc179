use Rattle.std.proofs.Common.{subst, ◌≡◌, ◌++◌, ◌∙◌, List, ℕ, length, take, drop, sym, ap}
use Rattle.std.proofs.Math.Seq.{take-append_seam}
use Rattle.st_rules.specs.Events.{latest}
use Rattle.st_model.specs.Walks.{pending_from, mark_from}
use Rattle.st_model.specs.PagePlaces.{places_from, is_change_at, is_cut_at}
use Rattle.st_model.specs.LogInvariants.{AreInPages}
use Rattle.st_model.proofs.Ranged.{ranged_marked}
use Rattle.st_model.proofs.Placed.{places_marked}
use Rattle.st_model.proofs.Latest.{index_marked}
use Rattle.st_model.proofs.log.FlatLog.mark.Goals as goal

written_back : {X : Type 0} (xs ys : List X) (k : ℕ) → length xs ≡ k → take k (xs ++ ys) ≡ xs
written_back xs ys k h = ap (λ n. take n (xs ++ ys)) (sym h) ∙ take-append_seam xs ys

pub invariant_of-self : goal.invariant_of-self
invariant_of-self g c =
    let e = written_back c.mark_places-kept.new.entries (drop (length c.mark_places-kept.new.entries) c.self.inside.entries.items) c.self.inside.entries.len (c.mark_places-kept.ensures.length ∙ c.deref_mut.ensures.len) in
    let p = written_back c.mark_places-kept.new.places (drop (length c.mark_places-kept.new.places) c.self.inside.pending.items) c.self.inside.pending.len (c.mark_places-kept.ensures.room ∙ c.deref_mut-2.ensures.len) in
    let m = e ∙ c.mark_places-kept.ensures.entries ∙ ap (λ es. mark_from (g.M.Marking.becomes c.args.marking.now) 1 es) c.deref_mut.ensures.value in
    record {
      blank = c.self.invariant.blank;
      pending = c.truncate.ensures.items ∙ ap (take c.mark_places-kept.result) p ∙ c.mark_places-kept.ensures.places ∙ sym (ap (pending_from 0) e);
      index = λ k f q. c.self.invariant.index k f q
          ∙ sym (ap (λ es. latest es k f q) m ∙ index_marked (g.M.Marking.becomes c.args.marking.now) k f q c.self.inside.entries.items);
      pages_of = λ q. c.self.invariant.pages_of q ∙ sym (ap (places_from (is_change_at q) 0) m ∙ places_marked (is_change_at q) (g.M.Marking.becomes c.args.marking.now) 1 0 c.self.inside.entries.items);
      cuts_of = λ q. c.self.invariant.cuts_of q ∙ sym (ap (places_from (is_cut_at q) 0) m ∙ places_marked (is_cut_at q) (g.M.Marking.becomes c.args.marking.now) 1 0 c.self.inside.entries.items);
      ranges = subst AreInPages (sym m) (ranged_marked (g.M.Marking.becomes c.args.marking.now) 1 c.self.inside.entries.items c.self.invariant.ranges);
    }
