-- Losses: a lease that is over takes its association to the next life.
use Rattle.st_lemmas.proofs.Words
use Words.{◌≡◌, ℕ, ◌+◌, ◌<◌, ◌≤◌, Bool, true, false, not, ◌||◌, List, [], ◌∷◌, Option, Some, None, refl, inl, inr, sym, ap, ◌∙◌, subst, arith, if◌then◌else◌}
use Words.{leb-true, leb-false, filter, nat_le, Life, ServerId, ClientId, Stamp, Ask, AppAnswer, Operation, LostPage}
use Words.asks
use Words.notes
use Words.phases
use Words.phases.{Expired}
use Words.Leases.{phase, phase_living, phase_serving, phase_young}
use Words.ClientLease as lease
use Words.ClientState as st
use Words.ClientState.{ClientSession, Turn, with_session, is_of}
use Words.Client as cl
use Rattle.st_base.specs.declared.config.Config as base
use Rattle.st_laws_refine.specs.Client.Law.{LifeEnds}
use Rattle.st_protocol.specs.Assoc.{upd, end_now, Config, Msg, In, Loses, Stays}
use Rattle.st_laws_refine.specs.Views.Halves.{client_of}
use Rattle.st_laws_refine.specs.Client.Invariants.{at, Beside, Said, Kept, Losses, Leaves, Lasts, Result}
use Rattle.st_laws_refine.proofs.Views.Moves.{one_to}
use Rattle.st_laws_refine.proofs.Client.Goes.{losses_both, said_both}

-- between two steps the lease may be over
pub record Begun (k : Config) (hs : List Msg) (t : Turn) (N : List Msg) : Type 0 where
  pub terms : t.config.lease ≡ k.lease
  pub born : 1 ≤ t.here.life.0
  pub said : Said t.id.0 t.here.server t.out N
  pub kept : Kept t.here.life.0 t.here.store t.here.session N
  pub received : (m : Msg) → In m hs → In m N

living : (k : base.Config) (d n : Stamp) (c : Bool) → lease.must_discard (lease.standing_by (phase_living k d c n)) ≡ false
unfolding phase_living phase_serving phase_young
living k d n c = go (nat_le (d.0 + k.flush) n.0) (nat_le (d.0 + k.quiesce) n.0 || c) (nat_le (d.0 + k.renew) n.0)
  where
    go : (x y z : Bool) → lease.must_discard (lease.standing_by (if x then phases.Flush else (if y then phases.Quiesce else (if z then phases.Renewal else phases.Valid)))) ≡ false
    go true y z = refl
    go false true z = refl
    go false false true = refl
    go false false false = refl

pub over : (t : Turn) (s : ClientSession) (n : Stamp) → cl.is_over t s n ≡ true → s.lease.date.0 + t.config.lease ≤ n.0
unfolding phase
over t s n e = go (nat_le (s.lease.date.0 + t.config.lease) n.0) refl e
  where
    go : (b : Bool) → nat_le (s.lease.date.0 + t.config.lease) n.0 ≡ b → lease.must_discard (lease.standing_by (if b then Expired else phase_living t.config s.lease.date s.lease.condemned n)) ≡ true → s.lease.date.0 + t.config.lease ≤ n.0
    go true q e = leb-true _ _ q
    go false q e = let z = sym (living t.config s.lease.date n s.lease.condemned) ∙ e in cc

pub not_over : (t : Turn) (s : ClientSession) (n : Stamp) → cl.is_over t s n ≡ false → n.0 < s.lease.date.0 + t.config.lease
unfolding phase
not_over t s n e = go (nat_le (s.lease.date.0 + t.config.lease) n.0) refl e
  where
    go : (b : Bool) → nat_le (s.lease.date.0 + t.config.lease) n.0 ≡ b → lease.must_discard (lease.standing_by (if b then Expired else phase_living t.config s.lease.date s.lease.condemned n)) ≡ false → n.0 < s.lease.date.0 + t.config.lease
    go true q e = cc
    go false q e = let z = leb-false _ _ q in omega arith

-- what ends an operation leaves all but the lost pages of the association
record Ends (t u : Turn) : Type 1 where
  pub server : u.here.server ≡ t.here.server
  pub life : u.here.life ≡ t.here.life
  pub config : u.config ≡ t.config
  pub id_ : u.id ≡ t.id
  pub said : (i : ℕ) (sv : ServerId) (N : List Msg) → Said i sv t.out N → Said i sv u.out N
  pub lost : (P : ServerId → Life → Type 0) → Losses P t.out → Losses P u.out

ends_then : (t u v : Turn) → Ends t u → Ends u v → Ends t v
ends_then t u v p q = record { server = q.server ∙ p.server; life = q.life ∙ p.life; config = q.config ∙ p.config; id_ = q.id_ ∙ p.id_; said = λ i sv N s. q.said i sv N (p.said i sv N s); lost = λ P l. q.lost P (p.lost P l) }

ends_if : (t : Turn) (b : Bool) (u v : Turn) → Ends t u → Ends t v → Ends t (if b then u else v)
ends_if t true u v p q = p
ends_if t false u v p q = q

answered_ends : (t : Turn) (lost : List LostPage) (op : ℕ) (a : AppAnswer) → Ends t (st.answered (st.with_lost_rows lost t) op a)
answered_ends t lost op a = record { server = refl; life = refl; config = refl; id_ = refl; said = λ i sv N s. said_both i sv t.out _ N s (record {}); lost = λ P l. losses_both P t.out _ l (record {}) }

unsent_ends : (t : Turn) (o : Operation) (ask : Ask) → Ends t (cl.end_unsent t o ask)
unfolding cl.end_unsent cl.end_sync cl.tell_lost
unsent_ends t o (asks.Sync f) = ends_if t _ _ _ (answered_ends t _ _ _) (answered_ends t t.here.lost _ _)
unsent_ends t o ask = answered_ends t t.here.lost _ _

operation_ends : (t : Turn) (s : ClientSession) (o : Operation) → Ends t (cl.end_operation t s o)
unfolding cl.end_operation
operation_ends t s o = ends_if t _ _ _ (answered_ends t t.here.lost _ _) (unsent_ends t o o.ask)

each_ends : (s : ClientSession) (os : List Operation) (t : Turn) → Ends t (cl.end_each s os t)
unfolding cl.end_each
each_ends s [] t = record { server = refl; life = refl; config = refl; id_ = refl; said = λ i sv N x. x; lost = λ P l. l }
each_ends s (o ∷ os) t = ends_then t (cl.end_operation t s o) _ (operation_ends t s o) (each_ends s os (cl.end_operation t s o))

module _ (k : Config) (sv : Beside) (n : Stamp) (hs : List Msg) where
  abbrev after_loss : Turn → Beside
  after_loss t = record { s = sv.s; ended = upd sv.ended t.here.life.0 (end_now k (client_of sv.ended n.0 t.here)) }

  -- what is lost, or not
  pub record Loss (t u : Turn) (N : List Msg) : Type 0 where
    pub ended : ℕ → ℕ
    pub ends : LifeEnds k n.0 t.here u.here.life.0 sv.ended ended
    pub result : Result k sv (record { s = sv.s; ended = ended }) n.0 hs t u N

  lost_goes : (t : Turn) (s : ClientSession) (N : List Msg) → Begun k hs (with_session s t) N → s.lease.date.0 + t.config.lease ≤ n.0 → Result k sv (after_loss (with_session s t)) n.0 hs (with_session s t) (cl.lose_session (with_session s t) s) N
  unfolding cl.lose_session cl.end_operations
  lost_goes t s N b o = record {
    net = N;
    moves =
        one_to (at (after_loss (with_session s t)) n.0 (cl.lose_session (with_session s t) s) N) (Loses (at sv n.0 (with_session s t) N) refl (subst (λ x. s.lease.date.0 + x ≤ n.0) b.terms o)) refl
        (λ j. record { c = record (client_of (after_loss (with_session s t)).ended n.0 (cl.lose_session (with_session s t) s).here) { life = (sym e.life j).0 + 1 }; s = sv.s; net = N });
    ready = record { terms = ap (λ (c : base.Config). c.lease) e.config ∙ b.terms; born = (let z = ap (λ (l : Life). l.0) e.life in omega arith); lasts = record {}; said = subst (λ y. Said y.0 u.here.server u.out N) (sym e.id_) (subst (λ x. Said t.id.0 x u.out N) (sym e.server) (e.said t.id.0 t.here.server N (said_both t.id.0 t.here.server t.out _ N b.said (record {})))); kept = record {}; received = b.received };
  }
    where
      v : Turn
      v = cl.with_lost_pages t.here.store (st.note (with_session s t) (notes.Lost t.here.server t.here.life))

      w : Turn
      w = st.with_operations (filter (λ o. not (is_of t.here.server o)) t.operations) v

      u : Turn
      u = cl.end_each s (filter (is_of t.here.server) t.operations) w

      e : Ends w u
      e = each_ends s (filter (is_of t.here.server) t.operations) w

  -- the next life
  lost_life : (t : Turn) (s : ClientSession) → t.here.life.0 < (cl.lose_session (with_session s t) s).here.life.0
  unfolding cl.lose_session cl.end_operations
  lost_life t s =
      let v : Turn = cl.with_lost_pages t.here.store (st.note (with_session s t) (notes.Lost t.here.server t.here.life)) in
      let w : Turn = st.with_operations (filter (λ o. not (is_of t.here.server o)) t.operations) v in
      let e = ap (λ (l : Life). l.0) (each_ends s (filter (is_of t.here.server) t.operations) w).life in omega arith

  -- Losses, at a server
  pub lose_goes : (t : Turn) (N : List Msg) → Begun k hs t N → Loss t (cl.lose n t) N
  unfolding cl.lose cl.lose_by cl.lose_over
  lose_goes t N b = go t.here.session refl
    where
      with_it : (o : Option ClientSession) → t.here.session ≡ o → t ≡ record t { here = record t.here { session = o } }
      with_it o q = λ j. record t { here = record t.here { session = q j } }

      none : (u : Turn) → u.here.session ≡ None → Begun k hs u N → Loss u u N
      none u q b = record { ended = sv.ended; ends = inl (record { lasts = subst (λ o. Lasts k.lease n.0 o) (sym q) (record {}); same = refl; life = omega arith }); result = record { net = N; moves = Stays (at sv n.0 u N); ready = record { terms = b.terms; born = b.born; lasts = subst (λ o. Lasts k.lease n.0 o) (sym q) (record {}); said = b.said; kept = b.kept; received = b.received } } }

      some : (s : ClientSession) (u : Turn) → Begun k hs (with_session s u) N → (b : Bool) → cl.is_over (with_session s u) s n ≡ b → Loss (with_session s u) (if b then cl.lose_session (with_session s u) s else with_session s u) N
      some s u b true e = record { ended = (after_loss (with_session s u)).ended; ends = inr (record { ended = refl; life = lost_life u s }); result = lost_goes u s N b (over (with_session s u) s n e) }
      some s u b false e =
          record {
            ended = sv.ended;
            ends = inl (record { lasts = subst (λ x. n.0 < s.lease.date.0 + x) b.terms (not_over (with_session s u) s n e); same = refl; life = omega arith });
            result =
                record {
                  net = N;
                  moves = Stays (at sv n.0 (with_session s u) N);
                  ready = record { terms = b.terms; born = b.born; lasts = subst (λ x. n.0 < s.lease.date.0 + x) b.terms (not_over (with_session s u) s n e); said = b.said; kept = b.kept; received = b.received };
                };
          }

      go : (o : Option ClientSession) → t.here.session ≡ o → Loss t (cl.lose_by t n o) N
      go None q = none t q b
      go (Some s) q =
          subst (λ u. Loss u (cl.lose_by u n (Some s)) N) (sym (with_it (Some s) q)) (some s t (subst (λ u. Begun k hs u N) (with_it (Some s) q) b) (cl.is_over (with_session s t) s n) refl)

-- each life that is lost has its session, whose lease is over
pub lose_losses : (P : ServerId → Life → Type 0) (n : Stamp) (t : Turn) → ((s : ClientSession) → t.here.session ≡ Some s → s.lease.date.0 + t.config.lease ≤ n.0 → P t.here.server t.here.life) → Losses P t.out → Losses P (cl.lose n t).out
unfolding cl.lose cl.lose_by cl.lose_over cl.lose_session cl.end_operations
lose_losses P n t f l = go t.here.session refl
  where
    v : Turn
    v = cl.with_lost_pages t.here.store (st.note t (notes.Lost t.here.server t.here.life))

    w : Turn
    w = st.with_operations (filter (λ o. not (is_of t.here.server o)) t.operations) v

    over_it : (s : ClientSession) → t.here.session ≡ Some s → (b : Bool) → cl.is_over t s n ≡ b → Losses P (if b then cl.lose_session t s else t).out
    over_it s e true o = (each_ends s (filter (is_of t.here.server) t.operations) w).lost P (losses_both P t.out _ l (record { one = f s e (over t s n o); rest = record {} }))
    over_it s e false o = l

    go : (o : Option ClientSession) → t.here.session ≡ o → Losses P (cl.lose_by t n o).out
    go None e = l
    go (Some s) e = over_it s e (cl.is_over t s n) refl

-- of only the frame
pub lose_frame : (n : Stamp) (t : Turn) → Leaves t.id.0 (cl.lose n t).id.0 t.here.server (cl.lose n t).here.server t.config (cl.lose n t).config t.out (cl.lose n t).out
unfolding cl.lose cl.lose_by cl.lose_over cl.lose_session cl.end_operations
lose_frame n t = go t.here.session
  where
    v : Turn
    v = cl.with_lost_pages t.here.store (st.note t (notes.Lost t.here.server t.here.life))

    w : Turn
    w = st.with_operations (filter (λ o. not (is_of t.here.server o)) t.operations) v

    lost : (s : ClientSession) → Leaves t.id.0 (cl.lose_session t s).id.0 t.here.server (cl.lose_session t s).here.server t.config (cl.lose_session t s).config t.out (cl.lose_session t s).out
    lost s =
        let e = each_ends s (filter (is_of t.here.server) t.operations) w in
        record { id_ = ap (λ (i : ClientId). i.0) e.id_; server = e.server; config = e.config; said = λ x M n q. subst (λ i. Said i x (cl.lose_session t s).out M) (sym (ap (λ (i : ClientId). i.0) e.id_)) (e.said t.id.0 x M (said_both t.id.0 x t.out _ M q (record {}))) }

    leaves_same : Leaves t.id.0 t.id.0 t.here.server t.here.server t.config t.config t.out t.out
    leaves_same = record { id_ = refl; server = refl; config = refl; said = λ x M n s. s }

    over_it : (s : ClientSession) (b : Bool) → Leaves t.id.0 (if b then cl.lose_session t s else t).id.0 t.here.server (if b then cl.lose_session t s else t).here.server t.config (if b then cl.lose_session t s else t).config t.out (if b then cl.lose_session t s else t).out
    over_it s true = lost s
    over_it s false = leaves_same

    go : (o : Option ClientSession) → Leaves t.id.0 (cl.lose_by t n o).id.0 t.here.server (cl.lose_by t n o).here.server t.config (cl.lose_by t n o).config t.out (cl.lose_by t n o).out
    go None = leaves_same
    go (Some s) = over_it s (cl.is_over t s n)
