-- What a step of a client does to its sessions, and what it says to each server.
use Rattle.st_lemmas.proofs.Words
use Words.{◌≡◌, ◌≢◌, ◌⊎◌, ◌==◌, ℕ, suc, Bool, true, false, List, [], ◌∷◌, ◌++◌, Some, None, length, refl, sym, ap, ◌∙◌, subst, inl, inr, arith, append-nil, append_assoc, eqb-true, if◌then◌else◌}
use Words.{AppAnswer, Body, ClientId, ClientInput, Header, Message, ServerId, Stamp}
use Words.answers
use Words.bodies
use Words.outputs
use Words.Client as plain
use Words.ClientState.{Association, is_at}
use Words.Keys.{server_node}
use Words.Lists.{Has}
use Words.Tables.{has_append}
use Words.Truth.{none_not_some, server_is}
use Rattle.st_rules.specs.declared.client.ClientInput.TheVariants as inputs
use Rattle.st_laws_steps.specs.Client.Losses.{Fit}
use Rattle.st_laws_steps.specs.Lives.Lives.{Pairwise}
use Rattle.st_laws_steps.proofs.Client.Losing.{is_done}
use Rattle.st_laws_steps.proofs.Client.Stepping.{pairs_then}
use Rattle.st_third.specs.declared.beside.Leave.{Leave}
use Rattle.st_third.specs.declared.event.ThirdInput.{ThirdInput}
use Rattle.st_third.specs.declared.event.ThirdInput.TheVariants as third
use Rattle.st_third.specs.declared.limits.Limits.{Limits}
use Rattle.st_third.specs.declared.output.ThirdOutput.{ThirdOutput}
use Rattle.st_third.specs.declared.output.ThirdOutput.TheVariants as says
use Rattle.st_third.specs.Client as client
use Rattle.st_third.specs.Leave as leaving
use Rattle.st_third.specs.Replies.{receive, receive_at}
use Rattle.st_third.specs.State.{Beside, ThirdClient, ThirdClientTurn, ThirdTurn, at_each, at_these, enter, leave, only_at, session, third_turn, with_none}
use Rattle.st_laws_third.specs.Changes.{ArePending, Heard, HeardLeave, HeardMessage, heard_end}
use Rattle.st_laws_third.specs.Living.{heard_in}
use Rattle.st_laws_third.specs.Pairs.{IsPaired}
use Rattle.st_laws_third.proofs.Finishing.{finishes, takes}
use Rattle.st_laws_third.proofs.Leaving.{loses, takes_leave}
use Rattle.st_laws_third.proofs.Living.{IsUnspoken, end_heard, nothing_heard}
use Rattle.st_laws_third.proofs.Pairs as paired
use Rattle.st_laws_third.proofs.Passing.{passes_change}
use Rattle.st_laws_third.proofs.Receiving.{receives}
use Rattle.st_laws_leaving.specs.Going.{AllNumbered, Apart, AtLeft, ClientsAreCalmUntilTheyAsk, EpochOf, HasBegunBy, IsNumbered, LeftsOf, OfMessage, OfSession, Went}
use Rattle.st_laws_leaving.proofs.Going.{Goes, LeftWord, LeftsAt, at_left_then, changes_go, finishes_go, goes_still, loses_go, passes_go, same_leaves, went_then}

-- Where neither a message nor an ask to leave is heard, more may be.
abbrev IsQuiet : Heard → Type 0
IsQuiet got = IsUnspoken got × ((l : Leave) → got ≡ Some (HeardLeave l) → ⊥)

none_quiet : IsQuiet None
none_quiet = (nothing_heard, λ l e. absurd (none_not_some _ e))

end_quiet : (number : ℕ) (ok : Bool) → IsQuiet (heard_end number ok)
end_quiet number ok = (end_heard number ok, by ok)
  where
    by : (ok : Bool) (l : Leave) → heard_end number ok ≡ Some (HeardLeave l) → ⊥
    by true l e = cc e
    by false l e = cc e

module _ (less got : Heard) (quiet : IsQuiet less) where
  epoch_wider : (a : Association) (epoch : ℕ) → EpochOf less a epoch → EpochOf got a epoch
  epoch_wider a epoch (OfSession s e q) = OfSession s e q
  epoch_wider a epoch (OfMessage m h q) = absurd (quiet.0 m h.0)

  went_wider : (a : Association) (os : List ThirdOutput) (b : Association) → Went less a os b → Went got a os b
  went_wider a os b w =
      record {
        server = w.server;
        life = w.life;
        numbered = w.numbered;
        sent = λ m h t. let z = w.sent m h t in record { since = z.since; until = z.until; epoch = from m z.epoch; begun = from_begun m z.begun };
        epoch = λ u e. epoch_wider a u.epoch.0 (w.epoch u e);
        calm = w.calm;
        unasked = w.unasked;
        begun = λ u e. begun b.life.0 (w.begun u e);
      }
    where
      from : (m : Message) → (m.body ≡ bodies.Hello) ⊎ (EpochOf less a m.header.epoch) → (m.body ≡ bodies.Hello) ⊎ (EpochOf got a m.header.epoch)
      from m (inl e) = inl e
      from m (inr e) = inr (epoch_wider a m.header.epoch e)

      begun : (life : ℕ) → HasBegunBy less a life → HasBegunBy got a life
      begun life (inl z) = inl z
      begun life (inr z) = absurd (quiet.0 z.message z.heard.0)

      from_begun : (m : Message) → (m.body ≡ bodies.Hello) ⊎ (HasBegunBy less a m.header.life) → (m.body ≡ bodies.Hello) ⊎ (HasBegunBy got a m.header.life)
      from_begun m (inl e) = inl e
      from_begun m (inr z) = inr (begun m.header.life z)

  pending_wider : (ls ms : List Leave) → ArePending less ls ms → ArePending got ls ms
  pending_wider ls ms p l h = go (p l h)
    where
      go : (Has l ls) ⊎ (less ≡ Some (HeardLeave l)) → (Has l ls) ⊎ (got ≡ Some (HeardLeave l))
      go (inl i) = inl i
      go (inr e) = absurd (quiet.1 l e)

  lefts_wider : (ls : List Leave) (a : Association) (before os : List ThirdOutput) → LeftsAt less ls a before os → LeftsAt got ls a before os
  lefts_wider ls a before [] l = tt
  lefts_wider ls a before (o ∷ os) l = (word o l.0, lefts_wider ls a (before ++ o ∷ []) os l.1)
    where
      left : (op : ℕ) → AtLeft less ls a before op → AtLeft got ls a before op
      left op x =
          record {
            middle = x.middle;
            went = went_wider a before x.middle x.went;
            unasked = x.unasked;
            session = x.session;
            is = x.is;
            leave = x.leave;
            pending = at x.pending;
            number = x.number;
            of_server = x.of_server;
          }
        where
          at : (Has x.leave ls) ⊎ (less ≡ Some (HeardLeave x.leave)) → (Has x.leave ls) ⊎ (got ≡ Some (HeardLeave x.leave))
          at (inl i) = inl i
          at (inr e) = absurd (quiet.1 x.leave e)

      word : (p : ThirdOutput) → LeftWord less ls a before p → LeftWord got ls a before p
      word (says.Left op) x = left op x
      word (says.Plain x) y = tt
      word (says.Unsynced op ino) y = tt
      word (says.Ended s life end) y = tt

  goes_wider : (t u : ThirdTurn) → Goes less t u → Goes got t u
  goes_wider t u g =
      record {
        id = g.id;
        fit = g.fit;
        leaves = pending_wider t.leaves u.leaves g.leaves;
        more = g.more;
        said = g.said;
        sent = g.sent;
        went = went_wider t.plain.here g.more u.plain.here g.went;
        lefts = lefts_wider t.leaves t.plain.here [] g.more g.lefts;
      }

-- Servers that are apart.

-- who changes as these do is apart, too
pub apart_on : (R : Association → Association → Type 0) → ((a b : Association) → R a b → b.server ≡ a.server) → (as_ bs : List Association) →
    Pairwise R as_ bs →
    Apart as_ → Apart bs
apart_on R f [] [] p x = tt
apart_on R f [] (b ∷ bs) p x = absurd p
apart_on R f (a ∷ as_) [] p x = absurd p
apart_on R f (a ∷ as_) (b ∷ bs) p x = record { first = first; rest = apart_on R f as_ bs p.rest x.rest }
  where
    back : (as_ bs : List Association) → Pairwise R as_ bs → (z : Association) → Has z bs → (y : Association) × (Has y as_ × (z.server ≡ y.server))
    back [] [] p z h = absurd h
    back [] (b ∷ bs) p z h = absurd p
    back (a ∷ as_) [] p z h = absurd p
    back (a ∷ as_) (b ∷ bs) p z (inl e) = (a, (inl refl, ap (λ (x : Association). x.server) e ∙ f a b p.one))
    back (a ∷ as_) (b ∷ bs) p z (inr h) = let y = back as_ bs p.rest z h in (y.0, (inr y.1.0, y.1.1))

    first : (z : Association) → Has z bs → z.server.0 ≢ b.server.0
    first z h e =
        let y = back as_ bs p.rest z h in
        x.first y.0 y.1.0 (sym (ap (λ (s : ServerId). s.0) y.1.1) ∙ e ∙ ap (λ (s : ServerId). s.0) (f a b p.one))

-- the association that one comes from
pub pairs_back : (R : Association → Association → Type 0) (as_ bs : List Association) → Pairwise R as_ bs → (b : Association) → Has b bs →
    (a : Association) × (Has a as_ × R a b)
pairs_back R [] [] p b h = absurd h
pairs_back R [] (y ∷ ys) p b h = absurd p
pairs_back R (x ∷ xs) [] p b h = absurd p
pairs_back R (x ∷ xs) (y ∷ ys) p b (inl e) = (x, (inl refl, subst (R x) (sym e) p.one))
pairs_back R (x ∷ xs) (y ∷ ys) p b (inr h) = let z = pairs_back R xs ys p.rest b h in (z.0, (inr z.1.0, z.1.1))

module _ (got : Heard) where
  abbrev Sent : List ThirdOutput → Message → Type 0
  Sent os m = Has (says.Plain (outputs.Send m)) os

  -- what goes to other servers
  foreign : (a : Association) (os : List ThirdOutput) → IsNumbered a.session → ((m : Message) → Sent os m → m.header.to ≡ server_node a.server → ⊥) →
      Went got a os a
  foreign a os n f =
      record {
        server = refl;
        life = omega arith;
        numbered = n;
        sent = λ m h t. absurd (f m h t);
        epoch = λ u e. OfSession u e refl;
        calm = λ x m h t l. absurd (f m h t);
        unasked = λ x e. x;
        begun = λ u e. inl ((u, e), refl);
      }

  -- Leaves that are answered `left`, at any of these associations.
  lefts_of : (ls : List Leave) (as_ : List Association) (a : Association) → Has a as_ → (before os : List ThirdOutput) → LeftsAt got ls a before os →
      LeftsOf got ls as_ before os
  lefts_of ls as_ a i before [] l = tt
  lefts_of ls as_ a i before (o ∷ os) l = (word o l.0, lefts_of ls as_ a i (before ++ o ∷ []) os l.1)
    where
      word : (p : ThirdOutput) → LeftWord got ls a before p → Rattle.st_laws_leaving.specs.Going.LeftOf got ls as_ before p
      word (says.Left op) x = (a, (i, x))
      word (says.Plain x) y = tt
      word (says.Unsynced op ino) y = tt
      word (says.Ended s life end) y = tt

  -- after other words, at associations that these come from
  lefts_after : (ls ms : List Leave) (as_ bs : List Association) (os before ps : List ThirdOutput) → ArePending got ls ms →
      ((b : Association) → Has b bs → (a : Association) × (Has a as_ × Went got a os b)) → LeftsOf got ms bs before ps → LeftsOf got ls as_ (os ++ before) ps
  lefts_after ls ms as_ bs os before [] k f l = tt
  lefts_after ls ms as_ bs os before (p ∷ ps) k f l =
      (word p l.0, subst (λ z. LeftsOf got ls as_ z ps) (sym (append_assoc os before (p ∷ []))) (lefts_after ls ms as_ bs os (before ++ p ∷ []) ps k f l.1))
    where
      word : (p : ThirdOutput) → Rattle.st_laws_leaving.specs.Going.LeftOf got ms bs before p →
          Rattle.st_laws_leaving.specs.Going.LeftOf got ls as_ (os ++ before) p
      word (says.Left op) x = let z = f x.0 x.1.0 in (z.0, (z.1.0, at_left_then got ls ms z.0 x.0 os before op k z.1.1 x.1.1))
      word (says.Plain x) y = tt
      word (says.Unsynced op ino) y = tt
      word (says.Ended s life end) y = tt

  lefts_both : (ls : List Leave) (as_ : List Association) (before os ps : List ThirdOutput) → LeftsOf got ls as_ before os →
      LeftsOf got ls as_ (before ++ os) ps →
      LeftsOf got ls as_ before (os ++ ps)
  lefts_both ls as_ before [] ps l m = subst (λ z. LeftsOf got ls as_ z ps) (append-nil before) m
  lefts_both ls as_ before (o ∷ os) ps l m =
      (l.0, lefts_both ls as_ (before ++ o ∷ []) os ps l.1 (subst (λ z. LeftsOf got ls as_ z ps) (sym (append_assoc before (o ∷ []) os)) m))

  lefts_more : (ls : List Leave) (as_ : List Association) (a : Association) (before os : List ThirdOutput) → LeftsOf got ls as_ before os →
      LeftsOf got ls (a ∷ as_) before os
  lefts_more ls as_ a before [] l = tt
  lefts_more ls as_ a before (o ∷ os) l = (word o l.0, lefts_more ls as_ a (before ++ o ∷ []) os l.1)
    where
      word : (p : ThirdOutput) → Rattle.st_laws_leaving.specs.Going.LeftOf got ls as_ before p →
          Rattle.st_laws_leaving.specs.Going.LeftOf got ls (a ∷ as_) before p
      word (says.Left op) x = (x.0, (inr x.1.0, x.1.1))
      word (says.Plain x) y = tt
      word (says.Unsynced op ino) y = tt
      word (says.Ended s life end) y = tt

  -- At each server in turn.
  abbrev Rule : (ThirdTurn → ThirdTurn) → Type 0
  Rule rule = (t : ThirdTurn) → Fit t.plain.here → IsNumbered (session t) → Goes got t (rule t)

  abbrev AllFit : List Association → Type 0
  AllFit as_ = (a : Association) → Has a as_ → Fit a

  record These (as_ : List Association) (t u : ThirdClientTurn) : Type 0 where
    id : u.client.plain.id ≡ t.client.plain.id
    leaves : ArePending got t.client.beside.leaves u.client.beside.leaves
    left : List Association
    is : u.client.plain.associations ≡ t.client.plain.associations ++ left
    fit : AllFit left
    more : List ThirdOutput
    said : u.out ≡ t.out ++ more
    pairs : Pairwise (λ a b. Went got a more b) as_ left
    sent : (m : Message) → Sent more m → (m.header.from ≡ t.client.plain.id.0) × ((a : Association) × (Has a as_ × (m.header.to ≡ server_node a.server)))
    lefts : LeftsOf got t.client.beside.leaves as_ [] more

  -- words before those of these associations
  pairs_later : (os ps : List ThirdOutput) (as_ bs : List Association) → AllNumbered as_ →
      ((a : Association) → Has a as_ → (m : Message) → Sent os m → m.header.to ≡ server_node a.server → ⊥) → Pairwise (λ a b. Went got a ps b) as_ bs →
      Pairwise (λ a b. Went got a (os ++ ps) b) as_ bs
  pairs_later os ps [] [] n f p = tt
  pairs_later os ps [] (b ∷ bs) n f p = absurd p
  pairs_later os ps (a ∷ as_) [] n f p = absurd p
  pairs_later os ps (a ∷ as_) (b ∷ bs) n f p =
      record {
        one = went_then got a a b os ps (foreign a os (n a (inl refl)) (f a (inl refl))) p.one;
        rest = pairs_later os ps as_ bs (λ x h. n x (inr h)) (λ x h. f x (inr h)) p.rest;
      }

  nodes_differ : (a b : Association) → a.server.0 ≢ b.server.0 → (n : ℕ) → n ≡ server_node a.server → n ≡ server_node b.server → ⊥
  nodes_differ a b ne n p q = ne (omega (arith, p, q))

  module _ (k : Limits) (rule : ThirdTurn → ThirdTurn) (one : Rule rule) where
    these_go : (as_ : List Association) (bs : List Beside) (t : ThirdClientTurn) → length bs ≡ length as_ → AllFit as_ → AllNumbered as_ → Apart as_ →
        These as_ t (at_these k rule as_ bs t)
    unfolding at_these
    these_go [] bs t e f n x =
        record {
          id = refl;
          leaves = same_leaves got t.client.beside.leaves;
          left = [];
          is = sym (append-nil t.client.plain.associations);
          fit = λ a h. absurd h;
          more = [];
          said = sym (append-nil t.out);
          pairs = tt;
          sent = λ m h. absurd h;
          lefts = tt;
        }
    these_go (a ∷ as_) [] t e f n x = absurd (nothing (length as_) e)
      where
        nothing : (n : ℕ) → 0 ≡ suc n → ⊥
        nothing n e = cc
    these_go (a ∷ as_) (b ∷ bs) t e f n x =
        let r : ThirdTurn = rule (enter k t a b) in
        let g : Goes got (enter k t a b) r = one (enter k t a b) (f a (inl refl)) (n a (inl refl)) in
        join r g (these_go as_ bs (leave t r) (omega (arith, e)) (λ y h. f y (inr h)) (λ y h. n y (inr h)) x.rest)
      where
        join : (r : ThirdTurn) → Goes got (enter k t a b) r → {u : ThirdClientTurn} → These as_ (leave t r) u → These (a ∷ as_) t u
        join r g {u} w =
            record {
              id = w.id;
              leaves = λ l h. pending l (w.leaves l h);
              left = r.plain.here ∷ w.left;
              is = w.is ∙ append_assoc t.client.plain.associations (r.plain.here ∷ []) w.left;
              fit = fits;
              more = g.more ++ w.more;
              said = w.said ∙ ap (λ z. z ++ w.more) (g.said ∙ ap (λ z. z ++ g.more) (append-nil t.out)) ∙ append_assoc t.out g.more w.more;
              pairs =
                  record {
                    one = went_then got a r.plain.here r.plain.here g.more w.more g.went (foreign r.plain.here w.more g.went.numbered others);
                    rest = pairs_later g.more w.more as_ w.left (λ y h. n y (inr h)) own w.pairs;
                  };
              sent = λ m h. sent m (has_append g.more w.more (says.Plain (outputs.Send m)) h);
              lefts =
                  lefts_both t.client.beside.leaves (a ∷ as_) [] g.more w.more (lefts_of t.client.beside.leaves (a ∷ as_) a (inl refl) [] g.more g.lefts)
                  (subst (λ z. LeftsOf got t.client.beside.leaves (a ∷ as_) z w.more) (append-nil g.more)
                  (lefts_more t.client.beside.leaves as_ a (g.more ++ []) w.more
                  (lefts_after t.client.beside.leaves r.leaves as_ as_ g.more [] w.more g.leaves (λ y h. (y, (h, foreign y g.more (n y (inr h)) (own y h))))
                  w.lefts)));
            }
          where
            pending : (l : Leave) → (Has l r.leaves) ⊎ (got ≡ Some (HeardLeave l)) → (Has l t.client.beside.leaves) ⊎ (got ≡ Some (HeardLeave l))
            pending l (inl h) = g.leaves l h
            pending l (inr q) = inr q

            fits : (y : Association) → Has y (r.plain.here ∷ w.left) → Fit y
            fits y (inl q) = subst Fit (sym q) (g.fit (f a (inl refl)))
            fits y (inr h) = w.fit y h

            -- the others' words aren't for this server
            others : (m : Message) → Sent w.more m → m.header.to ≡ server_node r.plain.here.server → ⊥
            others m h q =
                let z = w.sent m h in
                nodes_differ z.1.0 a (x.first z.1.0 z.1.1.0) m.header.to z.1.1.1 (q ∙ ap (λ (s : ServerId). server_node s) g.went.server)

            -- nor is this server's for the others
            own : (y : Association) → Has y as_ → (m : Message) → Sent g.more m → m.header.to ≡ server_node y.server → ⊥
            own y h m i q = nodes_differ y a (x.first y h) m.header.to q (g.sent m i).1

            sent : (m : Message) → (Sent g.more m) ⊎ (Sent w.more m) →
                (m.header.from ≡ t.client.plain.id.0) × ((y : Association) × (Has y (a ∷ as_) × (m.header.to ≡ server_node y.server)))
            sent m (inl h) = let z = g.sent m h in (z.0, (a, (inl refl, z.1)))
            sent m (inr h) = let z = w.sent m h in (z.0, (z.1.0, (inr z.1.1.0, z.1.1.1)))

  -- A step so far.
  record Moves (t u : ThirdClientTurn) : Type 0 where
    id : u.client.plain.id ≡ t.client.plain.id
    leaves : ArePending got t.client.beside.leaves u.client.beside.leaves
    fit : AllFit u.client.plain.associations
    more : List ThirdOutput
    said : u.out ≡ t.out ++ more
    pairs : Pairwise (λ a b. Went got a more b) t.client.plain.associations u.client.plain.associations
    sent : (m : Message) → Sent more m →
        (m.header.from ≡ t.client.plain.id.0) × ((a : Association) × (Has a t.client.plain.associations × (m.header.to ≡ server_node a.server)))
    lefts : LeftsOf got t.client.beside.leaves t.client.plain.associations [] more

  each_moves : (k : Limits) (rule : ThirdTurn → ThirdTurn) → Rule rule → (t : ThirdClientTurn) → IsPaired t.client → AllFit t.client.plain.associations →
      AllNumbered t.client.plain.associations → Apart t.client.plain.associations → Moves t (at_each k rule t)
  unfolding at_each
  each_moves k rule one t e f n x =
      let start : ThirdClientTurn = record t { client = with_none t.client } in
      let u : ThirdClientTurn = at_these k rule t.client.plain.associations t.client.beside.besides start in
      let w : These t.client.plain.associations start u = these_go k rule one t.client.plain.associations t.client.beside.besides start e f n x in
      record {
        id = w.id;
        leaves = w.leaves;
        fit = subst AllFit (sym w.is) w.fit;
        more = w.more;
        said = w.said;
        pairs = subst (Pairwise (λ a b. Went got a w.more b) t.client.plain.associations) (sym w.is) w.pairs;
        sent = w.sent;
        lefts = w.lefts;
      }

  numbered_on : (t u : ThirdClientTurn) → Moves t u → AllNumbered u.client.plain.associations
  numbered_on t u m b h = (pairs_back (λ a b. Went got a m.more b) _ _ m.pairs b h).1.1.numbered

  apart_after : (t u : ThirdClientTurn) → Moves t u → Apart t.client.plain.associations → Apart u.client.plain.associations
  apart_after t u m x = apart_on (λ a b. Went got a m.more b) (λ a b w. w.server) _ _ m.pairs x

  moves_then : (t u v : ThirdClientTurn) → Moves t u → Moves u v → Moves t v
  moves_then t u v p q =
      record {
        id = q.id ∙ p.id;
        leaves = λ l h. pending l (q.leaves l h);
        fit = q.fit;
        more = p.more ++ q.more;
        said = q.said ∙ ap (λ z. z ++ q.more) p.said ∙ append_assoc t.out p.more q.more;
        pairs =
            pairs_then (λ a b. Went got a p.more b) (λ a b. Went got a q.more b) (λ a b. Went got a (p.more ++ q.more) b)
            (λ a b c x y. went_then got a b c p.more q.more x y) _ _ _ p.pairs q.pairs;
        sent = λ m h. sent m (has_append p.more q.more (says.Plain (outputs.Send m)) h);
        lefts =
            lefts_both t.client.beside.leaves t.client.plain.associations [] p.more q.more p.lefts
            (subst (λ z. LeftsOf got t.client.beside.leaves t.client.plain.associations z q.more) (append-nil p.more)
            (lefts_after t.client.beside.leaves u.client.beside.leaves t.client.plain.associations u.client.plain.associations p.more [] q.more p.leaves
            (λ b h. pairs_back (λ a b. Went got a p.more b) _ _ p.pairs b h) q.lefts));
      }
    where
      pending : (l : Leave) → (Has l u.client.beside.leaves) ⊎ (got ≡ Some (HeardLeave l)) → (Has l t.client.beside.leaves) ⊎ (got ≡ Some (HeardLeave l))
      pending l (inl h) = p.leaves l h
      pending l (inr e) = inr e

      sent : (m : Message) → (Sent p.more m) ⊎ (Sent q.more m) →
          (m.header.from ≡ t.client.plain.id.0) × ((a : Association) × (Has a t.client.plain.associations × (m.header.to ≡ server_node a.server)))
      sent m (inl h) = p.sent m h
      sent m (inr h) =
          let z = q.sent m h in
          let y = pairs_back (λ a b. Went got a p.more b) _ _ p.pairs z.1.0 z.1.1.0 in
          (z.0 ∙ ap (λ (i : ClientId). i.0) p.id, (y.0, (y.1.0, z.1.1.1 ∙ ap (λ (s : ServerId). server_node s) y.1.1.server)))

  -- words that are neither messages nor `left`
  moves_by : (t u : ThirdClientTurn) (os : List ThirdOutput) → u.client ≡ t.client → u.out ≡ t.out ++ os → AllFit t.client.plain.associations →
      AllNumbered t.client.plain.associations → ((m : Message) → Sent os m → ⊥) → LeftsOf got t.client.beside.leaves t.client.plain.associations [] os →
      Moves t u
  moves_by t u os e s f n quiet l =
      record {
        id = ap (λ (x : ThirdClient). x.plain.id) e;
        leaves = λ y h. inl (subst (λ (x : ThirdClient). Has y x.beside.leaves) e h);
        fit = subst (λ (x : ThirdClient). AllFit x.plain.associations) (sym e) f;
        more = os;
        said = s;
        pairs = subst (λ (x : ThirdClient). Pairwise (λ a b. Went got a os b) t.client.plain.associations x.plain.associations) (sym e)
            (all t.client.plain.associations n);
        sent = λ m h. absurd (quiet m h);
        lefts = l;
      }
    where
      all : (as_ : List Association) → AllNumbered as_ → Pairwise (λ a b. Went got a os b) as_ as_
      all [] n = tt
      all (a ∷ as_) n = record { one = foreign a os (n a (inl refl)) (λ m h t. quiet m h); rest = all as_ (λ x h. n x (inr h)) }

  module _ (now : Stamp) (k : Limits) (t : ThirdClientTurn) (p : IsPaired t.client) (f : AllFit t.client.plain.associations)
      (n : AllNumbered t.client.plain.associations) (x : Apart t.client.plain.associations) where
    stays : Moves t t
    stays = moves_by t t [] refl (sym (append-nil t.out)) f n (λ m h. h) tt

    abbrev RuleAt : ServerId → (ThirdTurn → ThirdTurn) → Type 0
    RuleAt s rule = (u : ThirdTurn) → is_at s u.plain.here ≡ true → Fit u.plain.here → IsNumbered (session u) → Goes got u (rule u)

    only : (s : ServerId) (rule : ThirdTurn → ThirdTurn) → RuleAt s rule → Rule (only_at s rule)
    unfolding only_at
    only s rule one u g m = go (is_at s u.plain.here) refl
      where
        go : (b : Bool) → is_at s u.plain.here ≡ b → Goes got u (if b then rule u else u)
        go true e = one u e g m
        go false e = goes_still got u m

    asks : (op : ℕ) (s : ServerId) (rule : ThirdTurn → ThirdTurn) → RuleAt s rule → Moves t (client.ask_by k t op s rule)
    unfolding client.ask_by client.ask_at
    asks op s rule one = go (client.is_full k t.client) (plain.is_configured t.client.plain s)
      where
        at_once : (a : AppAnswer) → Moves t (client.answered_at_once t op a)
        at_once a = moves_by t _ (says.Plain (outputs.Answer op a) ∷ []) refl refl f n no (tt, tt)
          where
            no : (m : Message) → Sent (says.Plain (outputs.Answer op a) ∷ []) m → ⊥
            no m (inl q) = cc
            no m (inr q) = q

        go : (b d : Bool) → Moves t
            (if b then client.answered_at_once t op answers.OpsFull else
            (if d then at_each k (only_at s rule) t else client.answered_at_once t op answers.NoFile))
        go true d = at_once answers.OpsFull
        go false true = each_moves k (only_at s rule) (only s rule one) t p f n x
        go false false = at_once answers.NoFile

    hears : (h : Header) (body : Body) → got ≡ Some (HeardMessage (record { header = h; body = body })) → Moves t (receive k t now h body)
    unfolding receive
    hears h body e = go (h.to == t.client.plain.id.0)
      where
        one : Rule (receive_at now h body)
        one u g m = subst (λ (y : Heard). Goes y u (receive_at now h body u)) (sym e) (changes_go _ now u _ (receives now h body u g.fresh) m)

        go : (b : Bool) → Moves t (if b then at_each k (receive_at now h body) t else t)
        go true = each_moves k (receive_at now h body) one t p f n x
        go false = stays

    takes_plainly : (input : ClientInput) → got ≡ heard_in (third.Plain input) → Moves t (client.take_plain k t now input)
    unfolding client.take_plain client.app client.done
    takes_plainly inputs.Tick e = stays
    takes_plainly (inputs.App op ask) e = asks op _ _ (λ u i g m. goes_wider None got none_quiet u _ (changes_go None now u _ (takes now op ask u) m))
    takes_plainly (inputs.Control message) e = hears message.header message.body e
    takes_plainly (inputs.Done number result) e =
        each_moves k (client.finish number result)
        (λ u g m. goes_wider (heard_end number (is_done result)) got (end_quiet number (is_done result)) u _
        (finishes_go _ now number _ u _ (finishes now number u result) refl m))
        t p f n x

    -- an ask to leave, at its server
    asked : (op : ℕ) (s : ServerId) → got ≡ heard_in (third.Leave op s) → (u : ThirdTurn) → is_at s u.plain.here ≡ true → IsNumbered (session u) →
        Goes got u (leaving.take_leave op u)
    asked op s e u i m =
        subst (λ (g : Heard). Goes g u (leaving.take_leave op u))
        (ap (λ (z : ServerId). heard_in (third.Leave op z)) (server_is u.plain.here.server s (eqb-true u.plain.here.server.0 s.0 i)) ∙ sym e)
        (changes_go (heard_in (third.Leave op u.plain.here.server)) now u _ (takes_leave op u) m)

    takes_it : (input : ThirdInput) → got ≡ heard_in input → Moves t (client.take_input k t now input)
    unfolding client.take_input client.app_leave
    takes_it (third.Plain input) e = takes_plainly input e
    takes_it (third.Leave op s) e = asks op s _ (λ u i g m. asked op s e u i m)

pub clients_are_calm_until_they_ask : ClientsAreCalmUntilTheyAsk
unfolding client.client_step client.losses client.work
clients_are_calm_until_they_ask m c now input p f n x =
    let got : Heard = heard_in input in
    let t : ThirdClientTurn = third_turn c [] in
    let u : ThirdClientTurn = client.losses m t now in
    let v : ThirdClientTurn = client.take_input m u now input in
    let w : ThirdClientTurn = client.work m v now input in
    let a : Moves got t u = each_moves got m (leaving.lose now) (λ y g k. goes_wider None got none_quiet y _ (loses_go None now y _ (loses y) refl k)) t p f n x in
    let pu : IsPaired u.client = (paired.each_stays m (leaving.lose now) t p).paired in
    let b : Moves got u v = takes_it got now m u pu a.fit (numbered_on got t u a) (apart_after got t u a x) input refl in
    let pv : IsPaired v.client = (paired.input_stays m u now input pu).paired in
    let xv : Apart v.client.plain.associations = apart_after got u v b (apart_after got t u a x) in
    let d : Moves got v w =
    each_moves got m (client.third_passes now (client.is_tick input))
    (λ y g k. goes_wider None got none_quiet y _ (passes_go None now y _ (passes_change now (client.is_tick input) y) refl k)) v pv b.fit (numbered_on got u v b) xv
    in
    let all : Moves got t w = moves_then got t u w a (moves_then got u v w b d) in
    record {
      id = all.id;
      leaves = all.leaves;
      pairs = subst (λ os. Pairwise (λ y z. Went got y os z) c.plain.associations w.client.plain.associations) (sym all.said) all.pairs;
      sent = λ y h. all.sent y (subst (Has (says.Plain (outputs.Send y))) all.said h);
      lefts = subst (LeftsOf got c.beside.leaves c.plain.associations []) (sym all.said) all.lefts;
    }
