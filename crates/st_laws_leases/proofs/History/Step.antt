-- A whole step of a client: each lease that it leaves was noted with its end, or is the one before.
use Rattle.st_lemmas.proofs.Words
use Words.{◌≡◌, ℕ, Bool, true, false, List, [], ◌∷◌, ◌++◌, Option, Some, refl, sym, ap, ◌∙◌, subst, inl, inr, ◌⊎◌, map, option_map, eqb-true, Config, ClientId}
use Words.{Epoch, Life, ServerId, Stamp, AppAnswer, Message, ClientInput, append-nil}
use Words.answers
use Words.outputs
use Words.inputs
use Words.Client as cl
use Words.ClientLease as lease
use Words.ClientReplies as cr
use Words.ClientState as cs
use Words.ClientState.{ClientSession, Association, ClientState, ClientTurn, Turn, client_turn, enter, leave, at_these, at_each, server_of}
use Words.History.{epoch_at_session}
use Words.Keys.{same_server, server_node}
use Words.Leases as leases
use Words.Lists.{Has}
use Words.Tables.{has_append, has_map_in}
use Rattle.st_laws_steps.specs.Client.Inputs as taking
use Rattle.st_laws_steps.specs.Client.Inputs.{Taken}
use Rattle.st_laws_steps.specs.Lives.Lives.{Once, server_number}
use Rattle.st_laws_steps.proofs.Lives.Associations.{own_found}
use Rattle.st_laws_steps.proofs.Client.Taking.{taken}
use Rattle.st_laws_leases.specs.History.Replies.{renews_lease}
use Rattle.st_laws_leases.specs.History.Notes.{noted}
use Rattle.st_laws_leases.proofs.History.Leasing.{Noted, leased, noted_quiet, unsaid, noted_after_lose, noted_after_receive, noted_after_only, noted_after_finish, noted_after_passes}

-- What a message tells of a lease end, by the message's server, the life, the epoch and the end.
abbrev pub Tells : Type 1
Tells = ServerId → Life → Epoch → Stamp → Type 0

-- no lease end is reported
abbrev pub Nothing : Tells
Nothing s l p end = ⊥

-- What holds of a turn: the leases of these associations were noted last, and what is known of the ends that were noted: P of the associations that are done, R
-- of those ahead.
pub record AllNoted (k : Config) (init : ServerId → Option Stamp) (P R : Tells) (t : ClientTurn) (al : List Association) : Type 0 where
  pub config : t.state.config ≡ k
  pub once : Once (map server_number (t.state.associations ++ al))
  pub each : (a : Association) → Has a (t.state.associations ++ al) → (x : ClientSession) → a.session ≡ Some x → noted a.server t.out (init a.server) ≡ Some (lease.end_of k x.lease)
  pub behind : (a : Association) → Has a t.state.associations → (end : Stamp) → Has (leased a.server end) t.out → P a.server a.life (epoch_at_session a.session) end
  pub none : (s : ServerId) → ((a : Association) → Has a (t.state.associations ++ al) → same_server a.server s ≡ false) → (end : Stamp) → Has (leased s end) t.out → ⊥
  pub ahead : (a : Association) → Has a al → (end : Stamp) → Has (leased a.server end) t.out → R a.server a.life (epoch_at_session a.session) end

-- two associations of a list are of two servers
apart : (xs : List Association) (a : Association) (ys : List Association) → Once (map server_number (xs ++ a ∷ ys)) → (b : Association) → Has b xs ⊎ Has b ys → same_server a.server b.server ≡ false
apart [] a ys o b (inl h) = absurd h
apart [] a ys o b (inr h) = go (same_server a.server b.server) refl
  where
    go : (z : Bool) → same_server a.server b.server ≡ z → z ≡ false
    go true e = absurd (o.first (server_number b) (has_map_in server_number ys b h) (eqb-true a.server.0 b.server.0 e))
    go false e = refl
apart (x ∷ xs) a ys o b (inr h) = apart xs a ys o.rest b (inr h)
apart (x ∷ xs) a ys o b (inl (inr h)) = apart xs a ys o.rest b (inl h)
apart (x ∷ xs) a ys o b (inl (inl e)) = go (same_server a.server b.server) refl
  where
    there : (zs : List Association) → Has a (zs ++ a ∷ ys)
    there [] = inl refl
    there (z ∷ zs) = inr (there zs)

    go : (z : Bool) → same_server a.server b.server ≡ z → z ≡ false
    go true q = absurd (o.first (server_number a) (has_map_in server_number (xs ++ a ∷ ys) a (there xs)) (ap server_number (sym e) ∙ sym (eqb-true a.server.0 b.server.0 q)))
    go false q = refl

same_numbers : (xs : List Association) (a b : Association) (ys : List Association) → a.server ≡ b.server → map server_number (xs ++ a ∷ ys) ≡ map server_number ((xs ++ b ∷ []) ++ ys)
same_numbers [] a b ys e = ap (λ (s : ServerId). s.0 ∷ map server_number ys) e
same_numbers (x ∷ xs) a b ys e = ap (λ z. server_number x ∷ z) (same_numbers xs a b ys e)

has_mid : (xs : List Association) (a : Association) (ys : List Association) → Has a (xs ++ a ∷ ys)
has_mid [] a ys = inl refl
has_mid (x ∷ xs) a ys = inr (has_mid xs a ys)

has_skip : (xs : List Association) (a b : Association) (ys : List Association) → Has b xs ⊎ Has b ys → Has b (xs ++ a ∷ ys)
has_skip [] a b ys (inl h) = absurd h
has_skip [] a b ys (inr h) = inr h
has_skip (x ∷ xs) a b ys (inl (inl e)) = inl e
has_skip (x ∷ xs) a b ys (inl (inr h)) = inr (has_skip xs a b ys (inl h))
has_skip (x ∷ xs) a b ys (inr h) = inr (has_skip xs a b ys (inr h))

has_apart : (xs : List Association) (a : Association) (ys : List Association) (b : Association) → Has b (xs ++ a ∷ ys) → (b ≡ a) ⊎ (Has b xs ⊎ Has b ys)
has_apart [] a ys b (inl e) = inl e
has_apart [] a ys b (inr h) = inr (inr h)
has_apart (x ∷ xs) a ys b (inl e) = inr (inl (inl e))
has_apart (x ∷ xs) a ys b (inr h) = go (has_apart xs a ys b h)
  where
    go : (b ≡ a) ⊎ (Has b xs ⊎ Has b ys) → (b ≡ a) ⊎ (((b ≡ x) ⊎ Has b xs) ⊎ Has b ys)
    go (inl e) = inl e
    go (inr (inl i)) = inr (inl (inr i))
    go (inr (inr i)) = inr (inr i)

has_mid_last : (xs : List Association) (a : Association) (ys : List Association) → Has a ((xs ++ a ∷ []) ++ ys)
has_mid_last [] a ys = inl refl
has_mid_last (x ∷ xs) a ys = inr (has_mid_last xs a ys)

has_both : (xs : List Association) (a b : Association) (ys : List Association) → Has b xs ⊎ Has b ys → Has b ((xs ++ a ∷ []) ++ ys)
has_both [] a b ys (inl h) = absurd h
has_both [] a b ys (inr h) = inr h
has_both (x ∷ xs) a b ys (inl (inl e)) = inl e
has_both (x ∷ xs) a b ys (inl (inr h)) = inr (has_both xs a b ys (inl h))
has_both (x ∷ xs) a b ys (inr h) = inr (has_both xs a b ys (inr h))

module _ (k : Config) (init : ServerId → Option Stamp) where
  -- a rule, at any association: what is known of its ends goes from R to P
  abbrev Rule : Tells → Tells → (Turn → Turn) → Type 1
  Rule P R rule = (base : ServerId → Option Stamp) (B : ServerId → Stamp → Type 0) (sv : ServerId) (t : Turn) → Noted k init base sv (R sv) B t → Noted k init base sv (P sv) B (rule t)

  -- a rule at these associations
  these : (P R : Tells) (rule : Turn → Turn) → Rule P R rule → (al : List Association) (t : ClientTurn) → AllNoted k init P R t al → AllNoted k init P R (at_these rule al t) []
  unfolding at_these
  these P R rule one [] t h = h
  these P R rule one (a ∷ al) t h = these P R rule one al (leave t u) next
    where
      u : Turn
      u = rule (enter t a)

      n : Noted k init (λ s. noted s t.out (init s)) a.server (P a.server) (λ s end. Has (leased s end) t.out) u
      n = one (λ s. noted s t.out (init s)) (λ s end. Has (leased s end) t.out) a.server (enter t a)
          (record { config = h.config; server = refl; own = λ x e. h.each a (has_mid t.state.associations a al) x e; others = λ s e. refl; told = λ end i. h.ahead a (inl refl) end i; untold = λ s e end i. i })

      elsewhere : (b : Association) → Has b t.state.associations ⊎ Has b al → same_server u.here.server b.server ≡ false
      elsewhere b i = ap (λ (s : ServerId). same_server s b.server) n.server ∙ apart t.state.associations a al h.once b i

      other : (b : Association) → Has b t.state.associations ⊎ Has b al → (x : ClientSession) → b.session ≡ Some x → noted b.server u.out (init b.server) ≡ Some (lease.end_of k x.lease)
      other b i x e = n.others b.server (elsewhere b i) ∙ h.each b (has_skip t.state.associations a b al i) x e

      back : (b : Association) → Has b t.state.associations ⊎ Has b (u.here ∷ []) → (x : ClientSession) → b.session ≡ Some x → noted b.server u.out (init b.server) ≡ Some (lease.end_of k x.lease)
      back b (inl i) = other b (inl i)
      back b (inr (inl e)) = subst (λ (z : Association). (x : ClientSession) → z.session ≡ Some x → noted z.server u.out (init z.server) ≡ Some (lease.end_of k x.lease)) (sym e) n.own
      back b (inr (inr i)) = absurd i

      each : (b : Association) → Has b (t.state.associations ++ u.here ∷ []) ⊎ Has b al → (x : ClientSession) → b.session ≡ Some x → noted b.server u.out (init b.server) ≡ Some (lease.end_of k x.lease)
      each b (inl i) = back b (has_append t.state.associations (u.here ∷ []) b i)
      each b (inr i) = other b (inr i)

      mine : (end : Stamp) → Has (leased u.here.server end) u.out → P u.here.server u.here.life (epoch_at_session u.here.session) end
      mine end i = subst (λ (s : ServerId). P s u.here.life (epoch_at_session u.here.session) end) (sym n.server) (n.told end i)

      behind : (b : Association) → Has b t.state.associations ⊎ Has b (u.here ∷ []) → (end : Stamp) → Has (leased b.server end) u.out → P b.server b.life (epoch_at_session b.session) end
      behind b (inl i) end q = h.behind b i end (n.untold b.server (elsewhere b (inl i)) end q)
      behind b (inr (inl e)) end q =
          subst (λ (z : Association). (end : Stamp) → Has (leased z.server end) u.out → P z.server z.life (epoch_at_session z.session) end) (sym e) mine end q
      behind b (inr (inr i)) end q = absurd i

      elsewhere_of : (s : ServerId) → ((b : Association) → Has b ((t.state.associations ++ u.here ∷ []) ++ al) → same_server b.server s ≡ false) → (b : Association) → (b ≡ a) ⊎ (Has b t.state.associations ⊎ Has b al) → same_server b.server s ≡ false
      elsewhere_of s f b (inl e) = ap (λ (z : Association). same_server z.server s) e ∙ ap (λ z. same_server z s) (sym n.server) ∙ f u.here (has_mid_last t.state.associations u.here al)
      elsewhere_of s f b (inr i) = f b (has_both t.state.associations u.here b al i)

      next : AllNoted k init P R (leave t u) al
      next =
          record {
            config = h.config;
            once = subst Once (same_numbers t.state.associations a u.here al (sym n.server)) h.once;
            each = λ b i. each b (has_append (t.state.associations ++ u.here ∷ []) al b i);
            behind = λ b i end q. behind b (has_append t.state.associations (u.here ∷ []) b i) end q;
            none = λ s f end q. h.none s (λ b i. elsewhere_of s f b (has_apart t.state.associations a al b i)) end (n.untold s (f u.here (has_mid_last t.state.associations u.here al)) end q);
            ahead = λ b i end q. h.ahead b (inr i) end (n.untold b.server (elsewhere b (inr i)) end q);
          }

  -- the same with all associations done
  abbrev A : Tells → ClientTurn → Type 0
  A P t = AllNoted k init P Nothing t []

  -- and at each server in turn
  every : (P R : Tells) (rule : Turn → Turn) → Rule P R rule → (t : ClientTurn) → A R t → A P (at_each rule t)
  unfolding at_each
  every P R rule one t h =
      all
      (these P R rule one t.state.associations _
      (record {
        config = h.config;
        once = subst (λ z. Once (map server_number z)) (append-nil t.state.associations) h.once;
        each = λ a i x e. h.each a (subst (Has a) (sym (append-nil t.state.associations)) i) x e;
        behind = λ a i end q. absurd i;
        none = λ s f end q. h.none s (λ a i. f a (subst (Has a) (append-nil t.state.associations) i)) end q;
        ahead = λ a i end q. h.behind a i end q;
      }))
    where
      all : {u : ClientTurn} → AllNoted k init P R u [] → A P u
      all n = record { config = n.config; once = n.once; each = n.each; behind = n.behind; none = n.none; ahead = λ a i end q. absurd i }

  weaker : (P : Tells) (t : ClientTurn) → A Nothing t → A P t
  weaker P t h = record { config = h.config; once = h.once; each = h.each; behind = λ a i end q. absurd (h.behind a i end q); none = h.none; ahead = λ a i end q. absurd i }

  -- a message and the lease end that it tells
  pub record ToldBy (c : ClientId) (m : Message) (s : ServerId) (life : Life) (epoch : Epoch) (end : Stamp) : Type 0 where
    pub from : m.header.from ≡ server_node s
    pub to : m.header.to ≡ c.0
    pub of_life : m.header.life ≡ life.0
    pub of_epoch : m.header.epoch ≡ epoch.0
    pub renews : renews_lease m.header.number m.body ≡ true
    pub ends : leases.lease_end k (record { 0 = m.header.stamp }) ≡ end

  -- what an input tells
  abbrev pub Brings : ClientId → ClientInput → ServerId → Life → Epoch → Stamp → Type 0
  Brings c (inputs.Control m) s l p end = ToldBy c m s l p end
  Brings c i s l p end = ⊥

  receives : (c : ClientId) (now : Stamp) (m : Message) → m.header.to ≡ c.0 → Rule (Brings c (inputs.Control m)) Nothing (cr.receive_at now m.header m.body)
  receives c now m to base B sv t n =
      noted_after_receive k init base sv (ToldBy c m sv) B now m.header m.body t (λ end i. n.told end i)
      (λ life epoch f l p d. record { from = f ∙ ap server_node n.server; to = to; of_life = l; of_epoch = p; renews = d; ends = refl })
      (record { config = n.config; server = n.server; own = n.own; others = n.others; told = λ end i. absurd (n.told end i); untold = n.untold })

  input_noted : (c : ClientId) (t u : ClientTurn) (now : Stamp) (input : ClientInput) → Taken t now input u → t.state.id ≡ c → A Nothing t →
      A (Brings c input) u
  input_noted c t u now input x id h = go input u x
    where
      once_more : (i : ClientInput) (op : ℕ) (a : AppAnswer) → A (Brings c i) (cl.answered_at_once t op a)
      once_more i op a =
          weaker (Brings c i) (cl.answered_at_once t op a)
          (record {
            config = h.config;
            once = h.once;
            each = λ b i x e. noted_quiet b.server t.out (outputs.Answer op a) (init b.server) tt ∙ h.each b i x e;
            behind = λ b i end q. h.behind b i end (unsaid b.server end t.out (outputs.Answer op a) tt q);
            none = λ s f end q. h.none s f end (unsaid s end t.out (outputs.Answer op a) tt q);
            ahead = λ b i end q. absurd i;
          })

      go : (i : ClientInput) (u : ClientTurn) → Taken t now i u → A (Brings c i) u
      go _ _ (taking.Nothing i) = weaker (Brings c i) t h
      go _ _ (taking.Full op ask e) = once_more (inputs.App op ask) op answers.OpsFull
      go _ _ (taking.Unknown op ask e f) = once_more (inputs.App op ask) op answers.NoFile
      go _ _ (taking.Takes op ask e f) = weaker (Brings c (inputs.App op ask)) _ (every Nothing Nothing _ (λ base B sv u n. noted_after_only k init base sv (Nothing sv) B (server_of ask) op ask u n) t h)
      go _ _ (taking.Receives m e) = every (Brings c (inputs.Control m)) Nothing _ (receives c now m (eqb-true m.header.to t.state.id.0 e ∙ ap (λ (x : ClientId). x.0) id)) t h
      go _ _ (taking.Finishes number result) = weaker (Brings c (inputs.Done number result)) _ (every Nothing Nothing _ (λ base B sv u n. noted_after_finish k init base sv (Nothing sv) B number result u n) t h)

  lost_id : (al : List Association) (t : ClientTurn) (now : Stamp) → (at_these (cl.lose now) al t).state.id ≡ t.state.id
  unfolding at_these
  lost_id [] t now = refl
  lost_id (a ∷ al) t now = lost_id al (leave t (cl.lose now (enter t a))) now

  step_all : (c : ClientId) (s : ClientState) (now : Stamp) (input : ClientInput) → s.id ≡ c → A Nothing (client_turn s []) → A (Brings c input) (cl.client_step s now input)
  unfolding cl.client_step cl.work cl.losses at_each
  step_all c s now input id h =
      every (Brings c input) (Brings c input) _ (λ base B sv u n. noted_after_passes k init base sv (Brings c input sv) B now (cl.is_tick input) u n) _
      (input_noted c _ _ now input (taken _ now input) (lost_id s.associations (cs.with_associations [] (client_turn s [])) now ∙ id)
      (every Nothing Nothing _ (λ base B sv u n. noted_after_lose k init base sv (Nothing sv) B (λ l p end z. z) now u n) (client_turn s []) h))

-- the ends of the leases before a step
abbrev pub ends_before : ClientState → ServerId → Option Stamp
ends_before s v = cl.lease_end_with s v

-- After a step each lease has the end that the step noted last for its server, or the one from before; and each end that it noted comes from the message that
-- came, of the present life and epoch.
pub step_all_noted : (c : ClientId) (s : ClientState) (now : Stamp) (input : ClientInput) → s.id ≡ c → Once (map server_number s.associations) →
    AllNoted s.config (ends_before s) (Brings s.config (ends_before s) c input) Nothing (cl.client_step s now input) []
unfolding noted
step_all_noted c s now input id o = step_all s.config (ends_before s) c s now input id begins
  where
    begins : AllNoted s.config (ends_before s) Nothing Nothing (client_turn s []) []
    begins =
        record {
          config = refl;
          once = subst (λ z. Once (map server_number z)) (sym (append-nil s.associations)) o;
          each = λ b j y q. ap (λ z. lease.end_at s.config (cl.lease_at z)) (own_found s.associations o b (subst (Has b) (append-nil s.associations) j)) ∙ ap (λ z. lease.end_at s.config (option_map cl.lease_of_session z)) q;
          behind = λ b i end q. absurd q;
          none = λ s f end q. absurd q;
          ahead = λ b i end q. absurd i;
        }

pub step_noted : (s : ClientState) (now : Stamp) (input : ClientInput) → Once (map server_number s.associations) → (a : Association) → Has a (cl.client_step s now input).state.associations → (x : ClientSession) → a.session ≡ Some x →
    noted a.server (cl.client_step s now input).out (ends_before s a.server) ≡ Some (lease.end_of s.config x.lease)
step_noted s now input o a i x e = (step_all_noted s.id s now input refl o).each a (subst (Has a) (sym (append-nil (cl.client_step s now input).state.associations)) i) x e
