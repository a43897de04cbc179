-- A change under an exclusive lock leaves the numbers of changes below the locks of all clients.
use Rattle.st_lemmas.proofs.Words
use Words.{◌≡◌, ◌≢◌, ℕ, ◌<◌, ◌≤◌, ◌⊎◌, true, false, refl, sym, ap, ◌∙◌, subst, inl, inr, arith}
use Words.Tables.{same_or_not}
use Rattle.st_protocol.specs.Assoc.{Config, ConfigOk, Lock, Row, upd, Assoc, In, Alive, msg, send, server, client, Move, World, Reached, AtFirst, Then, Works}
use Rattle.st_protocol.specs.Assoc.{Shared, RowsCompat, InService, Reassert, Reasserted, Granted, Installs, Accepts}
use Rattle.st_protocol.proofs.Lists.{upd_tells, upd-same, upd-other}
use Rattle.st_protocol.proofs.Timing.{renews_of}
use Rattle.st_protocol.proofs.Claims.{inside}
use Rattle.st_protocol.proofs.Lives.{first_in_grace}
use Rattle.st_protocol.proofs.Steps.{same_or_less}
use Rattle.st_protocol.proofs.Exact.{ExclusiveAt, Holds, Comes, held_exact}
use Rattle.st_protocol.proofs.Invariant.{Invariant}
use Rattle.st_protocol.proofs.World.{invariant, exclusive, alone, no_conflict, same_all}
use Rattle.st_laws_leases.specs.Order.Order.{Below}
use Rattle.std.proofs.lemmas.Bool.{cases_Bool}

module _ (k : Config) (ok : ConfigOk k) where
  -- the server is one and the same in every reached state
  shared : (w : World) → Reached k w → Shared w
  shared w (AtFirst v s b) = s
  shared w (Then r s) = s.shared
  shared w (Works r s) = let z = shared _ r in
      λ c d. record { up = (same_all k (s.each c)).0 ∙ (z c d).up ∙ sym (same_all k (s.each d)).0; grace = (same_all k (s.each c)).1 ∙ (z c d).grace ∙ sym (same_all k (s.each d)).1 }

  -- One association moves, and all others stay.
  module _ (w : World) (r : Reached k w) (d : ℕ) (b : Assoc) where
    abbrev moved : World
    moved = record { at = upd w.at d b }

    moved_is : moved.at d ≡ b
    moved_is = upd-same w.at d b

    stays : (c : ℕ) → c ≢ d → moved.at c ≡ w.at c
    stays c n = upd-other w.at d b c n

    each : Move k (w.at d) b → (c : ℕ) → Move k (w.at c) (moved.at c) ⊎ (moved.at c ≡ w.at c)
    each m c = go (upd_tells w.at d b c)
      where
        go : ((c ≡ d) × (moved.at c ≡ b)) ⊎ ((c ≢ d) × (moved.at c ≡ w.at c)) → Move k (w.at c) (moved.at c) ⊎ (moved.at c ≡ w.at c)
        go (inl (e, f)) = inl (subst (λ x. Move k (w.at c) x) (sym f) (subst (λ n. Move k (w.at n) b) (sym e) m))
        go (inr (n, f)) = inr f

    still : b.s.up ≡ (w.at d).s.up → b.s.grace ≡ (w.at d).s.grace → (c : ℕ) → ((moved.at c).s.up ≡ (w.at c).s.up) × ((moved.at c).s.grace ≡ (w.at c).s.grace)
    still u g c = go (upd_tells w.at d b c)
      where
        go : ((c ≡ d) × (moved.at c ≡ b)) ⊎ ((c ≢ d) × (moved.at c ≡ w.at c)) → ((moved.at c).s.up ≡ (w.at c).s.up) × ((moved.at c).s.grace ≡ (w.at c).s.grace)
        go (inl (e, f)) = (ap (λ (x : Assoc). x.s.up) f ∙ u ∙ ap (λ n. (w.at n).s.up) (sym e), ap (λ (x : Assoc). x.s.grace) f ∙ g ∙ ap (λ n. (w.at n).s.grace) (sym e))
        go (inr (n, f)) = (ap (λ (x : Assoc). x.s.up) f, ap (λ (x : Assoc). x.s.grace) f)

    reached : Move k (w.at d) b → b.s.up ≡ (w.at d).s.up → b.s.grace ≡ (w.at d).s.grace → (InService (w.at 0).s → RowsCompat w → RowsCompat moved) → Reached k moved
    reached m u g t =
        Then r
        (record {
          each = each m;
          shared = λ c e. let z = shared w r in record { up = (still u g c).0 ∙ (z c e).up ∙ sym (still u g e).0; grace = (still u g c).1 ∙ (z c e).grace ∙ sym (still u g e).1 };
          table = λ x y f. t x f;
        })

  -- Two clients do not both hold an exclusive lock, nor does one have a row beside the other's.
  apart_held : (v : World) (c d i : ℕ) (a b : Assoc) → Reached k v → c ≢ d → v.at c ≡ a → v.at d ≡ b → Alive k a.c → Alive k b.c → 2 ≤ (a.c.held i).mode → 2 ≤ (b.c.held i).mode → ⊥
  apart_held v c d i a b r ne e1 e2 al bl x y =
      let m1 = ap (λ (z : Assoc). (z.c.held i).mode) e1 in
      let m2 = ap (λ (z : Assoc). (z.c.held i).mode) e2 in
      let z = exclusive k v ok r c d i ne (subst (λ (q : Assoc). Alive k q.c) (sym e1) al) (subst (λ (q : Assoc). Alive k q.c) (sym e2) bl) (omega (arith, m1, x)) (omega (arith, m2, y)) in
      omega (arith, m1, m2, x, y, z)

  apart_row : (v : World) (c d i : ℕ) (a b : Assoc) → Reached k v → c ≢ d → v.at c ≡ a → v.at d ≡ b → Alive k a.c → b.s.up ≡ true → 2 ≤ (a.c.held i).mode → 2 ≤ (b.s.row i).mode → ⊥
  apart_row v c d i a b r ne e1 e2 al u x y =
      let m1 = ap (λ (z : Assoc). (z.c.held i).mode) e1 in
      let m2 = ap (λ (z : Assoc). (z.s.row i).mode) e2 in
      let z = alone k v ok r c d i ne (subst (λ (q : Assoc). Alive k q.c) (sym e1) al) (omega (arith, m1, x)) (ap (λ (q : Assoc). q.s.up) e2 ∙ u) in
      omega (arith, m2, y, z)

  -- What holds of each client of a world.
  module _ (w : World) (r : Reached k w) where
    inv : (d : ℕ) → Invariant k (w.at d)
    inv d = invariant k w ok r d

    up_row : (d j : ℕ) → 2 ≤ ((w.at d).s.row j).mode → (w.at d).s.up ≡ true
    up_row d j x = go (cases_Bool (w.at d).s.up)
      where
        go : ((w.at d).s.up ≡ true) ⊎ ((w.at d).s.up ≡ false) → (w.at d).s.up ≡ true
        go (inl u) = u
        go (inr u) = let z = ((inv d).locks_.down u).1 j in absurd (omega (arith, x, z))

    -- a grant on its way is installed
    abbrev granted : (d i g mode : ℕ) → Assoc
    granted d i g mode = client (record (w.at d).c { held = upd (w.at d).c.held i (record { g = g; mode = mode }); seen = upd (w.at d).c.seen i g }) (w.at d)

    granted_mode : (d i g mode : ℕ) → 2 ≤ mode → 2 ≤ ((granted d i g mode).c.held i).mode
    granted_mode d i g mode x = let z = ap (λ (l : Lock). l.mode) (upd-same (w.at d).c.held i (record { g = g; mode = mode })) in omega (arith, z, x)

    installed : (d i stamp g mode : ℕ) → Alive k (w.at d).c → In (msg (w.at d).c.life (w.at d).c.epoch stamp (Granted i g mode)) (w.at d).net → (w.at d).c.seen i < g → Reached k (moved w r d (granted d i g mode))
    installed d i stamp g mode al y lt = reached w r d b (Installs (w.at d) stamp i g mode y al lt) refl refl (λ s f. compat f)
      where
        b : Assoc
        b = granted d i g mode

        rows_same : (e : ℕ) → ((moved w r d b).at e).s.row ≡ (w.at e).s.row
        rows_same e = go (upd_tells w.at d b e)
          where
            go : ((e ≡ d) × ((moved w r d b).at e ≡ b)) ⊎ ((e ≢ d) × ((moved w r d b).at e ≡ w.at e)) → ((moved w r d b).at e).s.row ≡ (w.at e).s.row
            go (inl (q, f)) = ap (λ (z : Assoc). z.s.row) f ∙ ap (λ n. (w.at n).s.row) (sym q)
            go (inr (n, f)) = ap (λ (z : Assoc). z.s.row) f

        compat : RowsCompat w → RowsCompat (moved w r d b)
        compat f e h j n p q =
            let m1 = ap (λ (z : ℕ → Row). (z j).mode) (rows_same e) in
            let m2 = ap (λ (z : ℕ → Row). (z j).mode) (rows_same h) in
            let z = f e h j n (omega (arith, m1, p)) (omega (arith, m2, q)) in omega (arith, m1, m2, z)

    -- The client's own: its life is the one that may reassert in grace.
    own_life : (c : ℕ) → Alive k (w.at c).c → (w.at c).s.up ≡ true → (w.at c).s.glife < (w.at c).c.life → (w.at c).s.session < (w.at c).c.life → ⊥
    own_life c alive u lt ls = go (same_or_less (w.at c).c.epoch (w.at c).s.epoch (inv c).timing_.ahead)
      where
        a : Assoc
        a = w.at c

        v : Invariant k a
        v = inv c

        settled : a.c.epoch ≡ a.s.epoch → (a.c.due ≡ true) ⊎ (a.c.due ≡ false) → ⊥
        settled e (inl f) = let z = v.lives_.due u alive.leased f e in omega (arith, z, lt)
        settled e (inr f) = let z = v.locks_.joined u e alive.leased f in omega (arith, z, ls)

        go : (a.c.epoch ≡ a.s.epoch) ⊎ (a.c.epoch < a.s.epoch) → ⊥
        go (inl e) = settled e (cases_Bool a.c.due)
        go (inr l) =
            let q = v.timing_.dated alive.leased in
            let el = q.3 in
            let z = v.lives_.former u _ q.4 (renews_of q.1 q.2) (omega (arith, l, el)) in omega (arith, z, lt)

  module _ (w : World) (r : Reached k w) (c i : ℕ) (alive : Alive k (w.at c).c) (two : 2 ≤ ((w.at c).c.held i).mode) where
    no_row_there : (d : ℕ) → c ≢ d → 2 ≤ ((w.at d).s.row i).mode → ⊥
    no_row_there d ne x = apart_row w c d i (w.at c) (w.at d) r ne refl refl alive (up_row w r d i x) two x

    no_lock_there : (d : ℕ) → c ≢ d → Alive k (w.at d).c → 2 ≤ ((w.at d).c.held i).mode → ⊥
    no_lock_there d ne al x = apart_held w c d i (w.at c) (w.at d) r ne refl refl alive al two x

    -- a grant on its way could be installed
    no_grant_there : (d : ℕ) → c ≢ d → Alive k (w.at d).c → (stamp g mode : ℕ) → In (msg (w.at d).c.life (w.at d).c.epoch stamp (Granted i g mode)) (w.at d).net → 2 ≤ mode → (w.at d).c.seen i < g → ⊥
    no_grant_there d ne al stamp g mode y x lt = apart_held (moved w r d (granted w r d i g mode)) c d i (w.at c) (granted w r d i g mode) (installed w r d i stamp g mode al y lt) ne (stays w r d (granted w r d i g mode) c ne) (moved_is w r d (granted w r d i g mode)) alive al two (granted_mode w r d i g mode x)

    -- a reassertion could be accepted
    no_reassertion_there : (d : ℕ) → c ≢ d → (w.at d).s.up ≡ true → (w.at d).s.grace ≡ true → (w.at d).s.timed ≡ false → (life stamp : ℕ) (locks : ℕ → Lock) → In (msg life (w.at d).s.epoch stamp (Reassert locks)) (w.at d).net →
        (w.at d).s.session < life → 2 ≤ (locks i).mode → ⊥
    no_reassertion_there d ne u g ti life stamp locks y lt x = apart_row (moved w r d b) c d i (w.at c) b next ne (stays w r d b c ne) (moved_is w r d b) alive u two x
      where
        a : Assoc
        a = w.at d

        b : Assoc
        b = send (msg life a.s.epoch stamp Reasserted) (server (record a.s { session = life; live = true; row = λ i. record { life = life; g = (locks i).g; mode = (locks i).mode } }) a)

        none : a.s.session ≡ 0
        none = first_in_grace k a (inv w r d).lives_ u g life stamp locks y lt

        zero_mode : (j n : ℕ) → (a.s.row j).mode ≡ n → n ≡ 0
        zero_mode j Rattle.std.specs.Prelude.zero e = refl
        zero_mode j (Rattle.std.specs.Prelude.suc n) e =
            let z = ((inv w r d).locks_.rows j (omega (arith, e))).of_session in
            let q = (inv w r d).born_.rows j (omega (arith, e)) in absurd (omega (arith, z, q, none))

        no_service : InService (w.at 0).s → ⊥
        no_service s = let z = (shared w r 0 d).grace in cc (z, g, s.grace)

        next : Reached k (moved w r d b)
        next = reached w r d b (Accepts a life stamp locks y (record { up = u; free = ti }) g lt (λ j. zero_mode j (a.s.row j).mode refl)) refl refl (λ s f. absurd (no_service s))

    own_row : 2 ≤ ((w.at c).s.row i).mode → ((w.at c).c.held i).g ≤ ((w.at c).s.row i).g
    own_row x = go (cases_Bool a.s.grace)
      where
        a : Assoc
        a = w.at c

        v : Invariant k a
        v = inv w r c

        u : a.s.up ≡ true
        u = up_row w r c i x

        exact : a.c.epoch ≡ a.s.epoch → a.s.session ≡ a.c.life → (a.c.held i).g ≤ (a.s.row i).g
        exact e s = let z = held_exact k a v.timing_ v.locks_ v.exact_ (record { up = u; epoch = e; session = s }) alive i two in omega (arith, z)

        lives : a.s.grace ≡ true → 1 ≤ a.s.session
        lives g = let z = (v.locks_.rows i (omega (arith, x))).of_session in let q = v.born_.rows i (omega (arith, x)) in omega (arith, z, q)

        graced : a.s.grace ≡ true → (a.s.session ≡ a.c.life) ⊎ (a.s.session < a.c.life) → (a.c.held i).g ≤ (a.s.row i).g
        graced g (inl e) = exact (v.locks_.graced u g e) e
        graced g (inr l) = let z = v.lives_.graced u g (lives g) in absurd (own_life w r c alive u (omega (arith, z, l)) l)

        go : (a.s.grace ≡ true) ⊎ (a.s.grace ≡ false) → (a.c.held i).g ≤ (a.s.row i).g
        go (inl g) = graced g (same_or_less a.s.session a.c.life v.timing_.lives)
        go (inr g) = let p = inside k a v.timing_ u g alive in exact p.0 p.1

    own_reassertion : (w.at c).s.up ≡ true → (w.at c).s.grace ≡ true → (life stamp : ℕ) (locks : ℕ → Lock) → In (msg life (w.at c).s.epoch stamp (Reassert locks)) (w.at c).net → (w.at c).s.session < life → ((w.at c).c.held i).g ≤ (locks i).g
    own_reassertion u g life stamp locks y lt = go (same_or_less (w.at c).s.glife (w.at c).c.life ((inv w r c).lives_.since u))
      where
        a : Assoc
        a = w.at c

        v : Invariant k a
        v = inv w r c

        at_life : life ≡ a.s.glife
        at_life = v.lives_.asserts u _ y refl refl

        go : (a.s.glife ≡ a.c.life) ⊎ (a.s.glife < a.c.life) → (a.c.held i).g ≤ (locks i).g
        go (inl e) =
            let z = subst (λ n. In (msg n a.s.epoch stamp (Reassert locks)) a.net) (at_life ∙ e) y in
            ((v.locks_.msgs u _ z refl refl).all (omega (arith, lt, at_life, e)) i (omega (arith, two))).0
        go (inr l) = absurd (own_life w r c alive u l (omega (arith, lt, at_life, l)))

    -- All of a client's: of this file, and of the others.
    pub changed : (H : ℕ → ℕ) → ((d : ℕ) → Below k H (w.at d)) → ((d : ℕ) → ((w.at c).c.held i).g ≤ (w.at d).s.top) → (d : ℕ) → Below k (upd H i ((w.at c).c.held i).g) (w.at d)
    changed H o low d = record { rows = rows; held = held; comes = comes; asserts = asserts; top = top }
      where
        a : Assoc
        a = w.at d

        x : ℕ
        x = ((w.at c).c.held i).g

        -- by the file
        by : (j : ℕ) (y : ℕ) → (j ≡ i → x ≤ y) → H j ≤ y → upd H i x j ≤ y
        by j y f h = go (upd_tells H i x j)
          where
            go : ((j ≡ i) × (upd H i x j ≡ x)) ⊎ ((j ≢ i) × (upd H i x j ≡ H j)) → upd H i x j ≤ y
            go (inl (e, q)) = let z = f e in omega (arith, q, z)
            go (inr (n, q)) = omega (arith, q, h)

        same_client : (c ≡ d) ⊎ (c ≢ d)
        same_client = same_or_not c d

        rows : (j : ℕ) → 2 ≤ (a.s.row j).mode → upd H i x j ≤ (a.s.row j).g
        rows j t = by j (a.s.row j).g (λ e. subst (λ n. x ≤ (a.s.row n).g) (sym e) (go same_client (subst (λ n. 2 ≤ (a.s.row n).mode) e t))) ((o d).rows j t)
          where
            go : (c ≡ d) ⊎ (c ≢ d) → 2 ≤ (a.s.row i).mode → x ≤ (a.s.row i).g
            go (inl e) t = subst (λ n. 2 ≤ ((w.at n).s.row i).mode → x ≤ ((w.at n).s.row i).g) e own_row t
            go (inr n) t = absurd (no_row_there d n t)

        held : Alive k a.c → (j : ℕ) → 2 ≤ (a.c.held j).mode → upd H i x j ≤ (a.c.held j).g
        held al j t = by j (a.c.held j).g (λ e. subst (λ n. x ≤ (a.c.held n).g) (sym e) (go same_client (subst (λ n. 2 ≤ (a.c.held n).mode) e t))) ((o d).held al j t)
          where
            go : (c ≡ d) ⊎ (c ≢ d) → 2 ≤ (a.c.held i).mode → x ≤ (a.c.held i).g
            go (inl e) t = subst (λ n. x ≤ ((w.at n).c.held i).g) e (omega arith)
            go (inr n) t = absurd (no_lock_there d n al t)

        comes : Alive k a.c → (stamp j g mode : ℕ) → In (msg a.c.life a.c.epoch stamp (Granted j g mode)) a.net → 2 ≤ mode → a.c.seen j < g → upd H i x j ≤ g
        comes al stamp j g mode y t lt =
            by j g (λ e. go same_client (subst (λ n. In (msg a.c.life a.c.epoch stamp (Granted n g mode)) a.net) e y) (subst (λ n. a.c.seen n < g) e lt)) ((o d).comes al stamp j g mode y t lt)
          where
            go : (c ≡ d) ⊎ (c ≢ d) → In (msg a.c.life a.c.epoch stamp (Granted i g mode)) a.net → a.c.seen i < g → x ≤ g
            go (inl e) y lt = subst (λ n. (w.at n).c.seen i < g → x ≤ g) e (λ l. let z = (inv w r c).locks_.seen i (omega (arith, two)) in omega (arith, z, l)) lt
            go (inr n) y lt = absurd (no_grant_there d n al stamp g mode y t lt)

        asserts : a.s.up ≡ true → a.s.grace ≡ true → a.s.timed ≡ false → (life stamp : ℕ) (locks : ℕ → Lock) → In (msg life a.s.epoch stamp (Reassert locks)) a.net → a.s.session < life → (j : ℕ) → 2 ≤ (locks j).mode → upd H i x j ≤ (locks j).g
        asserts u g ti life stamp locks y lt j t =
            by j (locks j).g (λ e. subst (λ n. x ≤ (locks n).g) (sym e) (go same_client (subst (λ n. 2 ≤ (locks n).mode) e t))) ((o d).asserts u g ti life stamp locks y lt j t)
          where
            own : (n : ℕ) → c ≡ n → (w.at n).s.up ≡ true → (w.at n).s.grace ≡ true → In (msg life (w.at n).s.epoch stamp (Reassert locks)) (w.at n).net → (w.at n).s.session < life → x ≤ (locks i).g
            own n e = subst (λ n. (w.at n).s.up ≡ true → (w.at n).s.grace ≡ true → In (msg life (w.at n).s.epoch stamp (Reassert locks)) (w.at n).net → (w.at n).s.session < life → x ≤ (locks i).g) e
                (λ u g y lt. own_reassertion u g life stamp locks y lt)

            go : (c ≡ d) ⊎ (c ≢ d) → 2 ≤ (locks i).mode → x ≤ (locks i).g
            go (inl e) t = own d e u g y lt
            go (inr n) t = absurd (no_reassertion_there d n u g ti life stamp locks y lt t)

        top : (j : ℕ) → upd H i x j ≤ a.s.top
        top j = by j a.s.top (λ e. low d) ((o d).top j)

  -- A cut under a row.
  module _ (w : World) (r : Reached k w) (c i : ℕ) (two : 2 ≤ ((w.at c).s.row i).mode) where
    up_here : (w.at c).s.up ≡ true
    up_here = up_row w r c i two

    -- the rows of a file are compatible, in grace too
    no_other_lock : (d : ℕ) → d ≢ c → Alive k (w.at d).c → 2 ≤ ((w.at d).c.held i).mode → ⊥
    no_other_lock d ne al x = apart_row w d c i (w.at d) (w.at c) r ne refl refl al up_here x two

    no_other_grant : (d : ℕ) → d ≢ c → Alive k (w.at d).c → (stamp g mode : ℕ) → In (msg (w.at d).c.life (w.at d).c.epoch stamp (Granted i g mode)) (w.at d).net → 2 ≤ mode → (w.at d).c.seen i < g → ⊥
    no_other_grant d ne al stamp g mode y x lt = apart_row (moved w r d (granted w r d i g mode)) d c i (granted w r d i g mode) (w.at c) (installed w r d i stamp g mode al y lt) ne (moved_is w r d (granted w r d i g mode)) (stays w r d (granted w r d i g mode) c (λ e. ne (sym e))) al up_here (granted_mode w r d i g mode x) two

    no_other_reassertion : (d : ℕ) → d ≢ c → (w.at d).s.up ≡ true → (w.at d).s.grace ≡ true → (life stamp : ℕ) (locks : ℕ → Lock) → In (msg life (w.at d).s.epoch stamp (Reassert locks)) (w.at d).net → 2 ≤ (locks i).mode → ⊥
    no_other_reassertion d ne u g life stamp locks y x = let z = no_conflict k w ok r d c i life stamp locks ne u g y (omega (arith, x)) (omega (arith, two)) in omega (arith, z, x, two)

    -- the client's own association belongs to the session if its lease lasts
    own_session : Alive k (w.at c).c → ((w.at c).c.epoch ≡ (w.at c).s.epoch) × ((w.at c).s.session ≡ (w.at c).c.life)
    own_session al = go (cases_Bool a.s.grace)
      where
        a : Assoc
        a = w.at c

        v : Invariant k a
        v = inv w r c

        session : 1 ≤ a.s.session
        session = let z = (v.locks_.rows i (omega (arith, two))).of_session in let q = v.born_.rows i (omega (arith, two)) in omega (arith, z, q)

        graced : a.s.grace ≡ true → (a.s.session ≡ a.c.life) ⊎ (a.s.session < a.c.life) → (a.c.epoch ≡ a.s.epoch) × (a.s.session ≡ a.c.life)
        graced g (inl e) = (v.locks_.graced up_here g e, e)
        graced g (inr l) = let z = v.lives_.graced up_here g session in absurd (own_life w r c al up_here (omega (arith, z, l)) l)

        go : (a.s.grace ≡ true) ⊎ (a.s.grace ≡ false) → (a.c.epoch ≡ a.s.epoch) × (a.s.session ≡ a.c.life)
        go (inl g) = graced g (same_or_less a.s.session a.c.life v.timing_.lives)
        go (inr g) = inside k a v.timing_ up_here g al

    own_exclusive : Alive k (w.at c).c → (x : ℕ) → ExclusiveAt (w.at c) i x → ((w.at c).s.row i).g ≤ x
    own_exclusive al x e = let p = own_session al in (inv w r c).exact_.exact (record { up = up_here; epoch = p.0; session = p.1 }) al i x e

    no_own_reassertion : (w.at c).s.grace ≡ true → (life stamp : ℕ) (locks : ℕ → Lock) → In (msg life (w.at c).s.epoch stamp (Reassert locks)) (w.at c).net → (w.at c).s.session < life → ⊥
    no_own_reassertion g life stamp locks y lt =
        let n = first_in_grace k (w.at c) (inv w r c).lives_ up_here g life stamp locks y lt in
        let z = ((inv w r c).locks_.rows i (omega (arith, two))).of_session in
        let q = (inv w r c).born_.rows i (omega (arith, two)) in omega (arith, n, z, q)

    -- all of a client's: of this file, and of the others
    pub cut : (H : ℕ → ℕ) → ((d : ℕ) → Below k H (w.at d)) → ((d : ℕ) → d ≢ c → ((w.at d).s.row i).mode < 2) → ((d : ℕ) → ((w.at c).s.row i).g ≤ (w.at d).s.top) → (d : ℕ) → Below k (upd H i ((w.at c).s.row i).g) (w.at d)
    cut H o single low d = record { rows = rows; held = held; comes = comes; asserts = asserts; top = top }
      where
        a : Assoc
        a = w.at d

        x : ℕ
        x = ((w.at c).s.row i).g

        by : (j : ℕ) (y : ℕ) → (j ≡ i → x ≤ y) → H j ≤ y → upd H i x j ≤ y
        by j y f h = go (upd_tells H i x j)
          where
            go : ((j ≡ i) × (upd H i x j ≡ x)) ⊎ ((j ≢ i) × (upd H i x j ≡ H j)) → upd H i x j ≤ y
            go (inl (e, q)) = let z = f e in omega (arith, q, z)
            go (inr (n, q)) = omega (arith, q, h)

        same_client : (d ≡ c) ⊎ (d ≢ c)
        same_client = same_or_not d c

        rows : (j : ℕ) → 2 ≤ (a.s.row j).mode → upd H i x j ≤ (a.s.row j).g
        rows j t = by j (a.s.row j).g (λ e. subst (λ n. x ≤ (a.s.row n).g) (sym e) (go same_client (subst (λ n. 2 ≤ (a.s.row n).mode) e t))) ((o d).rows j t)
          where
            go : (d ≡ c) ⊎ (d ≢ c) → 2 ≤ (a.s.row i).mode → x ≤ (a.s.row i).g
            go (inl e) t = subst (λ n. x ≤ ((w.at n).s.row i).g) (sym e) (omega arith)
            go (inr n) t = let z = single d n in absurd (omega (arith, z, t))

        held : Alive k a.c → (j : ℕ) → 2 ≤ (a.c.held j).mode → upd H i x j ≤ (a.c.held j).g
        held al j t = by j (a.c.held j).g (λ e. subst (λ n. x ≤ (a.c.held n).g) (sym e) (go same_client al (subst (λ n. 2 ≤ (a.c.held n).mode) e t))) ((o d).held al j t)
          where
            own : Alive k (w.at c).c → 2 ≤ ((w.at c).c.held i).mode → x ≤ ((w.at c).c.held i).g
            own al t = let e = (inv w r c).locks_.seen i (omega (arith, t)) in own_exclusive al ((w.at c).c.held i).g (Holds t e)

            go : (d ≡ c) ⊎ (d ≢ c) → Alive k a.c → 2 ≤ (a.c.held i).mode → x ≤ (a.c.held i).g
            go (inl e) = subst (λ n. Alive k (w.at n).c → 2 ≤ ((w.at n).c.held i).mode → x ≤ ((w.at n).c.held i).g) (sym e) own
            go (inr n) = λ al t. absurd (no_other_lock d n al t)

        comes : Alive k a.c → (stamp j g mode : ℕ) → In (msg a.c.life a.c.epoch stamp (Granted j g mode)) a.net → 2 ≤ mode → a.c.seen j < g → upd H i x j ≤ g
        comes al stamp j g mode y t lt =
            by j g (λ e. go same_client al (subst (λ n. In (msg a.c.life a.c.epoch stamp (Granted n g mode)) a.net) e y) (subst (λ n. a.c.seen n < g) e lt)) ((o d).comes al stamp j g mode y t lt)
          where
            own : Alive k (w.at c).c → In (msg (w.at c).c.life (w.at c).c.epoch stamp (Granted i g mode)) (w.at c).net → (w.at c).c.seen i < g → x ≤ g
            own al y lt = own_exclusive al g (Comes stamp mode y t lt)

            go : (d ≡ c) ⊎ (d ≢ c) → Alive k a.c → In (msg a.c.life a.c.epoch stamp (Granted i g mode)) a.net → a.c.seen i < g → x ≤ g
            go (inl e) = subst (λ n. Alive k (w.at n).c → In (msg (w.at n).c.life (w.at n).c.epoch stamp (Granted i g mode)) (w.at n).net → (w.at n).c.seen i < g → x ≤ g) (sym e) own
            go (inr n) = λ al y lt. absurd (no_other_grant d n al stamp g mode y t lt)

        asserts : a.s.up ≡ true → a.s.grace ≡ true → a.s.timed ≡ false → (life stamp : ℕ) (locks : ℕ → Lock) → In (msg life a.s.epoch stamp (Reassert locks)) a.net → a.s.session < life → (j : ℕ) → 2 ≤ (locks j).mode → upd H i x j ≤ (locks j).g
        asserts u g ti life stamp locks y lt j t =
            by j (locks j).g (λ e. subst (λ n. x ≤ (locks n).g) (sym e) (go same_client u g y lt (subst (λ n. 2 ≤ (locks n).mode) e t))) ((o d).asserts u g ti life stamp locks y lt j t)
          where
            own : (w.at c).s.up ≡ true → (w.at c).s.grace ≡ true → In (msg life (w.at c).s.epoch stamp (Reassert locks)) (w.at c).net → (w.at c).s.session < life → 2 ≤ (locks i).mode → x ≤ (locks i).g
            own u g y lt t = absurd (no_own_reassertion g life stamp locks y lt)

            go : (d ≡ c) ⊎ (d ≢ c) → a.s.up ≡ true → a.s.grace ≡ true → In (msg life a.s.epoch stamp (Reassert locks)) a.net → a.s.session < life → 2 ≤ (locks i).mode → x ≤ (locks i).g
            go (inl e) = subst (λ n. (w.at n).s.up ≡ true → (w.at n).s.grace ≡ true → In (msg life (w.at n).s.epoch stamp (Reassert locks)) (w.at n).net → (w.at n).s.session < life → 2 ≤ (locks i).mode → x ≤ (locks i).g) (sym e) own
            go (inr n) = λ u g y lt t. absurd (no_other_reassertion d n u g life stamp locks y t)

        top : (j : ℕ) → upd H i x j ≤ a.s.top
        top j = by j a.s.top (λ e. low d) ((o d).top j)
