-- What the calls of a volume answer.
use Rattle.st_lemmas.proofs.Words
use Words.{◌≡◌, ℕ, ◌+◌, ◌<◌, ◌≤◌, true, false, List, ◌∷◌, length, Option, Some, None, Ok, Err, Result, arith, refl, sym, ap, subst, ◌∙◌, ◌==◌, ◌&&◌, ◌-◌}
use Words.{is_some, if◌then◌else◌, nat_le, OnOk, list_any, eq-eqb, ne_eqb, le-leb, lt-leb, false_from_ne_true}
use Words.Truth.{some_there}
use Rattle.std.specs.Prelude.{IfErr}
use Rattle.std.specs.Option.{option_map}
use Rattle.st_snap.specs.declared.refusal.SnapRefusal.{SnapRefusal}
use Rattle.st_snap.specs.declared.refusal.SnapRefusal.TheVariants.{NoSpace, NoImage, TooMany, Memory}
use Rattle.st_snap.specs.Changes.{Change, Wrote, Took, Forgot, images, is_shared, is_view, is_write, last_write, page_of, shown, takes, takes_block}
use Rattle.st_snap.specs.Images as rules
use Rattle.st_snap.specs.Versions.{AreVersions, has_version, key_of, page_at, version}
use Rattle.st_snap.specs.Volumes.{Ends, HasNoRoom, Volume, IsAfter, IsHeld, Puts, first_after, is_among, numbered, seen, take_of, write_of}
use Rattle.st_snap.proofs.Lists.{first_none, first_some, none_passes, passes}
use Rattle.st_snap.proofs.Latest.{latest_is, latest_some}
use Rattle.st_snap.proofs.KeptViews.{among_image, take_image, taken_image}
use Rattle.st_snap.proofs.Counting.{counted}
use Rattle.st_snap.proofs.Writes.{begun, over}

module _ (blocks : ℕ) (cs : List Change) (h : Volume) (k : IsHeld h) (a : IsAfter blocks cs h) (f p : ℕ) where
  among_kept : (view : ℕ) → list_any (λ y. view == y) (images cs) ≡ true → list_any (λ y. view == y) h.kept ≡ true
  among_kept view m = ap (list_any (λ y. view == y)) a.kept ∙ m

  live_write : (t : ℕ) → seen h 0 f p ≡ Some t → (b : List ℕ) × (last_write cs f p ≡ Some (numbered (a.number f p t) b))
  live_write t e =
      let l = latest_some (has_version h.versions) f p h.next t e in
      let b = some_there (version h.versions (key_of f p t)) l.there in
      (b.0, a.pages 0 f p refl ∙ ap (write_of a.number h.versions f p) e ∙ ap (option_map (numbered (a.number f p t))) b.1)

  -- no image shares the live version
  other_write : (t i : ℕ) → seen h 0 f p ≡ Some t → i ≤ t → list_any (λ y. i == y) h.kept ≡ true → is_write (a.number f p t) (page_of cs i f p) ≡ false
  other_write t i e low m =
      let g = taken_image h k i m in
      let v = take_image h.next i g.some in
      let l = latest_some (has_version h.versions) f p h.next t e in
      ap (is_write (a.number f p t)) (a.pages i f p (among_image h.kept i m)) ∙ by (seen h i f p) refl v l.there
    where
      by : (o : Option ℕ) → seen h i f p ≡ o → take_of h.next i ≡ i → has_version h.versions (key_of f p t) ≡ true → is_write (a.number f p t) (write_of a.number h.versions f p o) ≡ false
      by None e2 v x = refl
      by (Some s) e2 v x =
          let r = latest_some (has_version h.versions) f p (take_of h.next i) s e2 in
          let less = a.rises f p s t (omega (arith, r.below, v, low)) r.there x in
          let b = some_there (version h.versions (key_of f p s)) r.there in
          ap (λ o. is_write (a.number f p t) (option_map (numbered (a.number f p s)) o)) b.1 ∙ ne_eqb (a.number f p t) (a.number f p s) (λ z. omega (arith, z, less))

  pub over_rule : (t : ℕ) → seen h 0 f p ≡ Some t → first_after h.kept t ≡ None → takes_block cs f p ≡ false
  unfolding takes_block
  over_rule t e alone =
      let w = live_write t e in
      ap (is_shared cs f p) w.1
      ∙ none_passes (λ image. is_write (a.number f p t) (page_of cs image f p)) (images cs)
      (λ i m. other_write t i e (first_none h.kept t alone i (among_kept i m)) (among_kept i m))

  pub new_rule : ((t : ℕ) → seen h 0 f p ≡ Some t → is_some (first_after h.kept t) ≡ true) → takes_block cs f p ≡ true
  unfolding takes_block
  new_rule shared = by (seen h 0 f p) refl
    where
      by : (o : Option ℕ) → seen h 0 f p ≡ o → is_shared cs f p (last_write cs f p) ≡ true
      by None e = ap (is_shared cs f p) (a.pages 0 f p refl ∙ ap (write_of a.number h.versions f p) e)
      by (Some t) e =
          let w = live_write t e in
          let i = some_there (first_after h.kept t) (shared t e) in
          let s = first_some h.kept t i.0 k.rising i.1 in
          let g = taken_image h k i.0 s.there in
          let v = take_image h.next i.0 g.some in
          let l = latest_some (has_version h.versions) f p h.next t e in
          let here : seen h i.0 f p ≡ Some t = latest_is (has_version h.versions) f p (take_of h.next i.0) t (record { below = omega (arith, v, s.above); there = l.there; none = λ u x y. l.none u x (omega (arith, y, v, g.below)) }) in
          let b = some_there (version h.versions (key_of f p t)) l.there in
          let page : page_of cs i.0 f p ≡ Some (numbered (a.number f p t) b.0) = a.pages i.0 f p (among_image h.kept i.0 s.there) ∙ ap (write_of a.number h.versions f p) here ∙ ap (option_map (numbered (a.number f p t))) b.1 in
          ap (is_shared cs f p) w.1
          ∙ passes (λ image. is_write (a.number f p t) (page_of cs image f p)) i.0 (images cs) (ap (list_any (λ y. i.0 == y)) (sym a.kept) ∙ s.there) (ap (is_write (a.number f p t)) page ∙ eq-eqb (a.number f p t) (a.number f p t) refl)

  -- Write.
  pub written_over : (bytes : List ℕ) → takes_block cs f p ≡ false → rules.write blocks cs f p bytes ≡ Ok (tt, Wrote f p bytes ∷ cs)
  unfolding rules.write
  written_over bytes e = ap (λ b. if b && nat_le blocks (shown cs) then Err (NoSpace 0 1) else Ok (tt, Wrote f p bytes ∷ cs)) e

  pub written_new : AreVersions h.versions → (bytes : List ℕ) → takes_block cs f p ≡ true → length h.versions.slots < h.versions.blocks → rules.write blocks cs f p bytes ≡ Ok (tt, Wrote f p bytes ∷ cs)
  unfolding rules.write
  written_new r bytes e room =
      let n = counted blocks cs h a r in
      (λ i. if e i && lt-leb blocks (shown cs) (omega (arith, n, room, a.size)) i then Err (NoSpace 0 1) else Ok (tt, Wrote f p bytes ∷ cs))

  pub refused_new : AreVersions h.versions → (bytes : List ℕ) → takes_block cs f p ≡ true → h.versions.blocks ≤ length h.versions.slots → rules.write blocks cs f p bytes ≡ Err (NoSpace 0 1)
  unfolding rules.write
  refused_new r bytes e full =
      let n = counted blocks cs h a r in
      (λ i. if e i && le-leb blocks (shown cs) (omega (arith, n, full, a.size)) i then Err (NoSpace 0 1) else Ok (tt, Wrote f p bytes ∷ cs))

module _ (blocks : ℕ) (cs : List Change) (h : Volume) (a : IsAfter blocks cs h) (f p : ℕ) where
  -- Read.
  page_bytes : (o : Option ℕ) → option_map rules.bytes_of (write_of a.number h.versions f p o) ≡ page_at h.versions f p o
  page_bytes None = refl
  page_bytes (Some t) = by (version h.versions (key_of f p t))
    where
      by : (o : Option (List ℕ)) → option_map rules.bytes_of (option_map (numbered (a.number f p t)) o) ≡ o
      by None = refl
      by (Some b) = refl

  view_is : (image : ℕ) → is_view cs image ≡ is_among h.kept image
  view_is image = ap (λ ks. list_any (λ y. image == y) (0 ∷ ks)) (sym a.kept)

  pub told : (image : ℕ) → is_among h.kept image ≡ true → rules.read cs image f p ≡ Ok (page_at h.versions f p (seen h image f p))
  unfolding rules.read
  told image m =
      ap (λ b. if b then Ok (option_map rules.bytes_of (page_of cs image f p)) else Err (NoImage image)) (view_is image ∙ m)
      ∙ ap Ok (ap (option_map rules.bytes_of) (a.pages image f p m) ∙ page_bytes (seen h image f p))

  pub refused_read : (image : ℕ) → is_among h.kept image ≡ false → rules.read cs image f p ≡ Err (NoImage image)
  unfolding rules.read
  refused_read image m = ap (λ b. if b then Ok (option_map rules.bytes_of (page_of cs image f p)) else Err (NoImage image)) (view_is image ∙ m)

module _ (blocks : ℕ) (cs : List Change) (h : Volume) (a : IsAfter blocks cs h) where
  -- Take.
  pub taken : length h.kept < 64 → rules.take cs ≡ Ok (h.next, Took ∷ cs)
  unfolding rules.take
  taken few =
      let n : length h.kept ≡ length (images cs) = ap length a.kept in
      ap (λ b. if b then Err (TooMany 64) else Ok (takes cs + 1, Took ∷ cs)) (lt-leb 64 (length (images cs)) (omega (arith, n, few)))
      ∙ ap (λ m. Ok (m, Took ∷ cs)) (sym a.next)

  pub refused_take : 64 ≤ length h.kept → rules.take cs ≡ Err (TooMany 64)
  unfolding rules.take
  refused_take many =
      let n : length h.kept ≡ length (images cs) = ap length a.kept in
      ap (λ b. if b then Err (TooMany 64) else Ok (takes cs + 1, Took ∷ cs)) (le-leb 64 (length (images cs)) (omega (arith, n, many)))

  -- Forget.
  pub forgets : (image : ℕ) → list_any (λ other. image == other) h.kept ≡ true → rules.forget cs image ≡ Ok (tt, Forgot image ∷ cs)
  unfolding rules.forget
  forgets image m = ap (λ b. if b then Ok (tt, Forgot image ∷ cs) else Err (NoImage image)) (ap (list_any (λ other. image == other)) (sym a.kept) ∙ m)

  pub refused_forget : (image : ℕ) → list_any (λ other. image == other) h.kept ≡ false → rules.forget cs image ≡ Err (NoImage image)
  unfolding rules.forget
  refused_forget image m = ap (λ b. if b then Ok (tt, Forgot image ∷ cs) else Err (NoImage image)) (ap (list_any (λ other. image == other)) (sym a.kept) ∙ m)

-- A write, by what its version is.
module _ (h : Volume) (k : IsHeld h) (f p : ℕ) (shared : (t : ℕ) → seen h 0 f p ≡ Some t → is_some (first_after h.kept t) ≡ true) where
  one_take : (h.next - 1) + 1 ≡ h.next
  one_take = omega (arith, k.some)

  -- no version began after the last take
  pub none_begun : has_version h.versions (key_of f p (h.next - 1)) ≡ false
  none_begun = false_from_ne_true (has_version h.versions (key_of f p (h.next - 1))) (λ t.
      let e = one_take in
      let live : seen h 0 f p ≡ Some (h.next - 1) = latest_is (has_version h.versions) f p h.next (h.next - 1) (record { below = omega (arith, e); there = t; none = λ u l m. absurd (omega (arith, e, l, m)) }) in
      let i = some_there (first_after h.kept (h.next - 1)) (shared (h.next - 1) live) in
      let s = first_some h.kept (h.next - 1) i.0 k.rising i.1 in
      let g = taken_image h k i.0 s.there in
      omega (arith, e, s.above, g.below))

pub ends_over : (blocks : ℕ) (cs : List Change) (old new : Volume) → IsHeld old → IsAfter blocks cs old → (f p t : ℕ) (bytes : List ℕ) (r : Result (Unit {0}) SnapRefusal)
    → seen old 0 f p ≡ Some t → first_after old.kept t ≡ None → OnOk r (Puts old new (key_of f p t) bytes) → IfErr r (λ e. e ≡ Memory) → Ends blocks old new r (rules.write blocks cs f p bytes)
ends_over blocks cs old new k a f p t bytes (Ok x) live alone w m =
    (Wrote f p bytes ∷ cs, (written_over blocks cs old k a f p bytes (over_rule blocks cs old k a f p t live alone), over blocks cs old new k a f p t bytes w live alone))
ends_over blocks cs old new k a f p t bytes (Err e) live alone w m = subst (λ (x : SnapRefusal). Ends {T = Unit {0}} blocks old new (Err x) (rules.write blocks cs f p bytes)) (sym m) tt

pub ends_new : (blocks : ℕ) (cs : List Change) (old new : Volume) → IsHeld old → IsAfter blocks cs old → AreVersions old.versions → (f p : ℕ) (bytes : List ℕ) (r : Result (Unit {0}) SnapRefusal)
    → ((t : ℕ) → seen old 0 f p ≡ Some t → is_some (first_after old.kept t) ≡ true) → OnOk r (Puts old new (key_of f p (old.next - 1)) bytes) → OnOk r (length old.versions.slots < old.versions.blocks)
    → IfErr r (HasNoRoom old new) → Ends blocks old new r (rules.write blocks cs f p bytes)
ends_new blocks cs old new k a v f p bytes (Ok x) shared w room n = (
  Wrote f p bytes ∷ cs,
  (
    written_new blocks cs old k a f p v bytes (new_rule blocks cs old k a f p shared) room,
    begun blocks cs old new k a f p (old.next - 1) bytes w (one_take old k f p shared) (none_begun old k f p shared) shared,
  ),
)
ends_new blocks cs old new k a v f p bytes (Err (NoSpace free asked)) shared w room n =
    (refused_new blocks cs old k a f p v bytes (new_rule blocks cs old k a f p shared) n.1.1.0 ∙ (λ i. Err (NoSpace (sym n.0 i) (sym n.1.0 i))), n.1.1.1)
ends_new blocks cs old new k a v f p bytes (Err (NoImage i)) shared w room n = absurd n
ends_new blocks cs old new k a v f p bytes (Err (TooMany i)) shared w room n = absurd n
ends_new blocks cs old new k a v f p bytes (Err Memory) shared w room n = tt
