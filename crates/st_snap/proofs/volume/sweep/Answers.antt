use Rattle.st_lemmas.proofs.Words
use Words.{◌≡◌, ◌<◌, true, cond, None, subst, sym, ◌∙◌, Option}
use Rattle.st_snap.specs.declared.versions.VersionKey.{VersionKey}
use Rattle.std.specs.Ordering.{is_lt}
use Rattle.st_snap.specs.Versions.{IsLastBelow, Versions, has_version, key_order, latest, same_key, version}
use Rattle.st_snap.specs.Volumes.{IsSeen, take_of}
use Rattle.st_snap.proofs.KeptViews.{there_if}
use Rattle.st_snap.proofs.Sweeping.{IsBehind, IsThere, done_gone, done_seen, left, left_before, same_gone, smaller, there_below}
use Rattle.st_snap.proofs.volume.sweep.Goals.{then-not-is_seen, else-not-is_seen}
use Rattle.st_snap.proofs.volume.sweep.Goals as goal

pub remove-requires : goal.remove-requires
remove-requires c = subst (IsThere c.versions.versions) c.in-Some.is c.versions.invariant.there

pub versions-smaller : goal.versions-smaller
versions-smaller c =
    let h = subst (IsThere c.versions.versions) c.in-Some.is c.versions.invariant.there in
    subst (λ (o : Option VersionKey). left_before c.last_below-cursor.result c.args.versions.now.slots < left_before o c.args.versions.now.slots) (sym c.in-Some.is)
    (smaller c.args.versions.now c.if-not-is_seen.versions c.in-Some.key c.last_below-cursor.result
    (there_if c.args.versions.now c.versions.versions c.in-Some.key (c.versions.invariant.left c.in-Some.key h) h) c.last_below-cursor.ensures)

pub versions-preserved : goal.versions-preserved
versions-preserved c = elim c.if-not-is_seen.branch [
  | then-not-is_seen w ↦
      let s = c.versions.invariant in
      let done : (q : VersionKey) → has_version c.versions.versions q ≡ true → is_lt (key_order c.in-Some.key q) ≡ true → IsSeen (record { versions = c.versions.versions; kept = c.args.kept.now; next = c.args.next }) q = λ q h z. s.done q h (subst (λ (o : Option VersionKey). IsBehind o q) (sym c.in-Some.is) z) in
      let gone : (q : VersionKey) → version c.if-not-is_seen.versions q ≡ cond (same_key c.in-Some.key q) None (version c.versions.versions q) = subst (λ (v : Versions). (q : VersionKey) → version v q ≡ cond (same_key c.in-Some.key q) None (version c.versions.versions q)) (sym w.versions-is) w.remove.ensures.gone in
      let no = sym c.is_seen.ensures ∙ w.if-not-is_seen.true in
      record {
        blocks = subst (λ (v : Versions). v.blocks ≡ c.versions.versions.blocks) (sym w.versions-is) w.remove.ensures.blocks ∙ s.blocks;
        left = λ q h.
            let l = left c.versions.versions c.if-not-is_seen.versions c.in-Some.key gone q h in
            l ∙ s.left q (there_if c.versions.versions c.if-not-is_seen.versions q l h);
        same = λ view f p m.
            same_gone c.versions.versions c.args.kept.now c.args.next c.requires.rising c.requires.taken c.in-Some.key done c.if-not-is_seen.versions gone no view f p m ∙ s.same view f p m;
        done = done_gone c.versions.versions c.args.kept.now c.args.next c.requires.rising c.requires.taken c.in-Some.key done c.if-not-is_seen.versions gone no c.last_below-cursor.result c.last_below-cursor.ensures;
        there = there_below c.if-not-is_seen.versions c.in-Some.key c.last_below-cursor.result c.last_below-cursor.ensures;
      }
  | else-not-is_seen w ↦
      let s = c.versions.invariant in
      let e = w.versions-is in
      record {
        blocks = subst (λ (v : Versions). v.blocks ≡ c.args.versions.now.blocks) (sym e) s.blocks;
        left = subst (λ (v : Versions). (q : VersionKey) → has_version v q ≡ true → version v q ≡ version c.args.versions.now q) (sym e) s.left;
        same = λ view f p m. subst (λ (v : Versions). latest (has_version v) f p (take_of c.args.next view) ≡ latest (has_version c.args.versions.now) f p (take_of c.args.next view)) (sym e) (s.same view f p m);
        done = subst (λ (v : Versions). (q : VersionKey) → has_version v q ≡ true → IsBehind c.last_below-cursor.result q → IsSeen (record { versions = v; kept = c.args.kept.now; next = c.args.next }) q) (sym e)
            (done_seen c.versions.versions c.args.kept.now c.args.next c.requires.rising c.requires.taken c.in-Some.key (λ q h z. s.done q h (subst (λ (o : Option VersionKey). IsBehind o q) (sym c.in-Some.is) z))
            (sym c.is_seen.ensures ∙ w.if-not-is_seen.false) c.last_below-cursor.result (subst (λ (v : Versions). IsLastBelow v c.in-Some.key c.last_below-cursor.result) e c.last_below-cursor.ensures));
        there = there_below c.if-not-is_seen.versions c.in-Some.key c.last_below-cursor.result c.last_below-cursor.ensures;
      }
]
