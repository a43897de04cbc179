-- The asks of each client are counted, and each pending leave was asked.
use Rattle.st_lemmas.proofs.Words
use Words.{◌≡◌, ◌≢◌, ◌≤◌, ◌+◌, ◌⊎◌, ℕ, suc, List, [], ◌∷◌, ◌++◌, cons_option, filter_map, length, map, map-append, Some, None, sym, ap, ◌∙◌, subst, inl, inr, arith, append-nil, append_assoc, if◌then◌else◌, length-append, ne_eqb}
use Words.{Ask, ClientId, ServerId}
use Words.asks
use Words.Events as ev
use Words.Lists.{Has}
use Words.Lookups.{some_is}
use Words.Numbers.{get_last, numbered_below, numbered_old, numbered_other, numbered_own}
use Words.Tables.{same_or_not}
use Words.Truth.{eqb_self, none_not_some}
use Words.World.{WorldClient, numbered, site_of}
use Rattle.std.proofs.lemmas.List.Elements.{filter_map-append}
use Rattle.st_rules.specs.Safety.{ask_in, ask_of, ask_of_client, event_of}
use Rattle.st_third.specs.declared.beside.Leave.{Leave}
use Rattle.st_third.specs.declared.event.ThirdEvent.{ThirdEvent}
use Rattle.st_third.specs.declared.event.ThirdInput.{ThirdInput}
use Rattle.st_third.specs.Events as every
use Rattle.st_third.specs.Promises.{server_left}
use Rattle.st_third.specs.State.{ClientBeside, ThirdClientTurn}
use Rattle.st_third.specs.Steps.{ThirdStep, no_file, plain_event, plain_step}
use Rattle.st_third.specs.World.{ThirdWorld, beside_of}
use Rattle.st_laws_third.specs.Changes.{HeardLeave}
use Rattle.st_laws_third.specs.Living.{heard_in}
use Rattle.st_laws_third.proofs.DemandsSeen.{People}
use Rattle.st_laws_third.proofs.EventWalk.{Client_step, ClientGets, ClientTakes, ClientTicks, IsAsked, IsAskedToLeave, IsTold}
use Rattle.st_laws_third.proofs.Moves.{took_core}
use Rattle.st_laws_third.proofs.Sound.{Sound}
use Rattle.st_laws_leaving.specs.Leavers.{AsksKnown, asks_of}
use Rattle.st_laws_leaving.specs.Quiet.{Standing}
use Rattle.st_laws_leaving.proofs.TakesStanding.{goes}

-- what an event asks of a client
abbrev pub new_asks : ℕ → ThirdEvent → List Ask
new_asks n e = filter_map (ask_in (record { 0 = n })) (plain_event e ∷ [])

-- a leave that an event asks for
pub record IsNew (w : ThirdWorld) (n : ℕ) (e : ThirdEvent) (l : Leave) : Type 0 where
  pub site : WorldClient
  pub there : numbered w.world.clients n ≡ Some site
  pub number : l.op ≡ site.asks + 1
  pub is : new_asks n e ≡ asks.Sync (no_file l.server) ∷ []

-- What an event adds.
pub record AsksGrow (e : ThirdEvent) (w v : ThirdWorld) : Type 0 where
  pub sites : (n : ℕ) (new : WorldClient) → numbered v.world.clients n ≡ Some new →
      (old : WorldClient) × (numbered w.world.clients n ≡ Some old) × (new.asks ≡ old.asks + length (new_asks n e))
  pub besides : (n : ℕ) (new : ClientBeside) → numbered v.besides n ≡ Some new →
      (old : ClientBeside) × (numbered w.besides n ≡ Some old) × ((l : Leave) → Has l new.leaves → (Has l old.leaves) ⊎ (IsNew w n e l))

-- The asks after one more step.

asks_more : (n : ℕ) (past : List ThirdStep) (x : ThirdStep) → asks_of n (past ++ x ∷ []) ≡ asks_of n past ++ new_asks n x.event
asks_more n past x =
    ap (λ ys. filter_map (ask_in (record { 0 = n })) (map event_of ys)) (map-append plain_step past (x ∷ []))
    ∙ ap (filter_map (ask_in (record { 0 = n }))) (map-append event_of (map plain_step past) (plain_step x ∷ []))
    ∙ filter_map-append (ask_in (record { 0 = n })) (map event_of (map plain_step past)) (plain_event x.event ∷ [])

ask_is : (c : ClientId) (past : List ThirdStep) (x : ThirdStep) (op : ℕ) →
    ask_of (map plain_step past) (plain_step x) c op ≡ numbered (asks_of c.0 (past ++ x ∷ [])) op
ask_is c past x op = ap (λ ys. numbered (filter_map (ask_in c) (map event_of ys)) op) (sym (map-append plain_step past (x ∷ [])))

numbered_grows : {A : Type 0} (xs ys : List A) (n : ℕ) (v : A) → numbered xs n ≡ Some v → numbered (xs ++ ys) n ≡ Some v
numbered_grows xs [] n v e = subst (λ zs. numbered zs n ≡ Some v) (sym (append-nil xs)) e
numbered_grows xs (y ∷ ys) n v e =
    subst (λ zs. numbered zs n ≡ Some v) (append_assoc xs (y ∷ []) ys) (numbered_grows (xs ++ y ∷ []) ys n v (numbered_old xs y n v e))

numbered_last : {A : Type 0} (xs : List A) (y : A) (n : ℕ) → n ≡ length xs + 1 → numbered (xs ++ y ∷ []) n ≡ Some y
numbered_last xs y n e = ap (numbered (xs ++ y ∷ [])) (let z : n ≡ suc (length xs) = omega (arith, e) in z) ∙ get_last xs y

-- a leave that is pending after the step was asked
leave_asked : (past : List ThirdStep) (x : ThirdStep) (w : ThirdWorld) (n : ℕ) (b : ClientBeside) → AsksKnown past w → numbered w.besides n ≡ Some b →
    (l : Leave) → (Has l b.leaves) ⊎ (IsNew w n x.event l) → numbered (asks_of n (past ++ x ∷ [])) l.op ≡ Some (asks.Sync (no_file l.server))
leave_asked past x w n b k e l (inl h) =
    ap (λ ys. numbered ys l.op) (asks_more n past x) ∙ numbered_grows (asks_of n past) (new_asks n x.event) l.op _ (k.leaves n b e l h)
leave_asked past x w n b k e l (inr z) =
    ap (λ ys. numbered ys l.op) (asks_more n past x ∙ ap (λ ys. asks_of n past ++ ys) z.is)
    ∙ numbered_last (asks_of n past) (asks.Sync (no_file l.server)) l.op (z.number ∙ ap (λ j. j + 1) (sym (k.count n z.site z.there)))

pub known_on : (past : List ThirdStep) (x : ThirdStep) (e : ThirdEvent) (w v : ThirdWorld) → x.event ≡ e → AsksGrow e w v → AsksKnown past w →
    AsksKnown (past ++ x ∷ []) v
known_on past x e w v i g k =
    record {
      count = λ n new q. let z = g.sites n new q in
          ap (λ ys. length ys) (asks_more n past x ∙ ap (λ y. asks_of n past ++ new_asks n y) i)
          ∙ length-append (asks_of n past) (new_asks n e) ∙ ap (λ j. j + length (new_asks n e)) (k.count n z.0 z.1) ∙ sym z.2;
      leaves =
          λ n new q l h. let z = g.besides n new q in
          leave_asked past x w n z.0 k z.1 l (subst (λ y. (Has l z.0.leaves) ⊎ (IsNew w n y l)) (sym i) (z.2 l h));
    }

-- the server that a pending leave names
pub leave_server : (past : List ThirdStep) (x : ThirdStep) (w : ThirdWorld) (c : ClientId) (b : ClientBeside) → AsksKnown past w → beside_of w c ≡ Some b →
    (l : Leave) → (Has l b.leaves) ⊎ (IsNew w c.0 x.event l) → server_left (ask_of (map plain_step past) (plain_step x) c l.op) ≡ l.server
leave_server past x w c b k e l h = ap server_left (ask_is c past x l.op ∙ leave_asked past x w c.0 b k e l h)

-- A client takes an input.

own_ask : (c : ClientId) (ask : Ask) → ask_of_client c c ask ≡ Some ask
unfolding ask_of_client
own_ask c ask = ap (λ b. if b then Some ask else None) (eqb_self c.0)

other_ask : (c d : ClientId) (ask : Ask) → c.0 ≢ d.0 → ask_of_client c d ask ≡ None
unfolding ask_of_client
other_ask c d ask ne = ap (λ b. if b then Some ask else None) (ne_eqb c.0 d.0 ne)

module _ (e : ThirdEvent) (w : ThirdWorld) (so : Sound w) (pe : People w) (st : Standing w.world) (c : ClientId) (old site : WorldClient) (b : ClientBeside)
    (input : ThirdInput) (there : site_of w.world c ≡ Some old) (same : site.node ≡ old.node) (beside : beside_of w c ≡ Some b)
    (why : ClientTakes w c old e site input) where
  abbrev Turn : ThirdClientTurn
  Turn = Client_step w c site b input

  abbrev V : ThirdWorld
  V = (every.client_took w c site Turn).third

  abbrev New : WorldClient
  New = ev.at_node (record site.node { state = Turn.client.plain }) site

  -- the leave that is heard is new
  pub new_leave : (l : Leave) → heard_in input ≡ Some (HeardLeave l) → IsNew w c.0 e l
  new_leave l q = go why q
    where
      go : {x : ThirdEvent} {site : WorldClient} {input : ThirdInput} → ClientTakes w c old x site input → heard_in input ≡ Some (HeardLeave l) →
          IsNew w c.0 x l
      go ClientTicks q = absurd (none_not_some _ q)
      go (IsAsked ask) q = absurd (none_not_some _ q)
      go (IsAskedToLeave s) q =
          let z : record { op = old.asks + 1; server = s } ≡ l = is q in
          record {
            site = old;
            there = there;
            number = ap (λ (y : Leave). y.op) (sym z);
            is =
                ap (λ o. cons_option o []) (own_ask c (asks.Sync (no_file s))) ∙
                ap (λ (y : ServerId). asks.Sync (no_file y) ∷ []) (ap (λ (y : Leave). y.server) z);
          }
        where
          is : Some (HeardLeave (record { op = old.asks + 1; server = s })) ≡ Some (HeardLeave l) → record { op = old.asks + 1; server = s } ≡ l
          is q = cc q
      go (ClientGets k m found receiver) q = cc q
      go (IsTold k ok m found own) q = absurd (none_not_some _ q)

  asks_after : site.asks ≡ old.asks + length (new_asks c.0 e)
  asks_after = go why
    where
      nothing : (a : ℕ) → a ≡ a + 0
      nothing a = omega arith

      go : {x : ThirdEvent} {site : WorldClient} {input : ThirdInput} → ClientTakes w c old x site input → site.asks ≡ old.asks + length (new_asks c.0 x)
      go ClientTicks = nothing old.asks
      go (IsAsked ask) = ap (λ o. old.asks + length (cons_option o [])) (sym (own_ask c ask))
      go (IsAskedToLeave s) = ap (λ o. old.asks + length (cons_option o [])) (sym (own_ask c (asks.Sync (no_file s))))
      go (ClientGets k m found receiver) = nothing old.asks
      go (IsTold k ok m found own) = nothing old.asks

  others_asked : (n : ℕ) → n ≢ c.0 → (a : ℕ) → a ≡ a + length (new_asks n e)
  others_asked n ne a = go why
    where
      nothing : (a : ℕ) → a ≡ a + 0
      nothing a = omega arith

      go : {x : ThirdEvent} {site : WorldClient} {input : ThirdInput} → ClientTakes w c old x site input → a ≡ a + length (new_asks n x)
      go ClientTicks = nothing a
      go (IsAsked ask) = nothing a ∙ ap (λ o. a + length (cons_option o [])) (sym (other_ask (record { 0 = n }) c ask ne))
      go (IsAskedToLeave s) = nothing a ∙ ap (λ o. a + length (cons_option o [])) (sym (other_ask (record { 0 = n }) c (asks.Sync (no_file s)) ne))
      go (ClientGets k m found receiver) = nothing a
      go (IsTold k ok m found own) = nothing a

  pub took_grows : AsksGrow e w V
  took_grows = record { sites = λ n new q. sites n new q (same_or_not n c.0); besides = λ n new q. besides n new q (same_or_not n c.0) }
    where
      low : 1 ≤ c.0
      low = (numbered_below w.world.clients c.0 old there).0

      clients : V.world.clients ≡ Words.World.with_numbered c.0 New w.world.clients
      clients = ap (λ x. x.plain.clients) (took_core w c site Turn)

      beside_list : V.besides ≡ Words.World.with_numbered c.0 Turn.client.beside w.besides
      beside_list = ap (λ x. x.besides) (took_core w c site Turn)

      sites : (n : ℕ) (new : WorldClient) → numbered V.world.clients n ≡ Some new → (n ≡ c.0) ⊎ (n ≢ c.0) →
          (old2 : WorldClient) × (numbered w.world.clients n ≡ Some old2) × (new.asks ≡ old2.asks + length (new_asks n e))
      sites n new q (inl i) =
          let z : New ≡ new =
          some_is
          (sym (numbered_own w.world.clients c.0 New old there) ∙ ap (λ xs. numbered xs c.0) (sym clients) ∙ ap (numbered V.world.clients) (sym i) ∙ q) in (
            old,
            ap (numbered w.world.clients) i ∙ there,
            ap (λ (y : WorldClient). y.asks) (sym z) ∙ asks_after ∙
                ap (λ j. old.asks + length (new_asks j e)) (sym i),
          )
      sites n new q (inr ne) =
          (new, sym (numbered_other w.world.clients c.0 n New low ne) ∙ ap (λ xs. numbered xs n) (sym clients) ∙ q, others_asked n ne new.asks)

      besides : (n : ℕ) (new : ClientBeside) → numbered V.besides n ≡ Some new → (n ≡ c.0) ⊎ (n ≢ c.0) →
          (old2 : ClientBeside) × (numbered w.besides n ≡ Some old2) × ((l : Leave) → Has l new.leaves → (Has l old2.leaves) ⊎ (IsNew w n e l))
      besides n new q (inl i) =
          let z : Turn.client.beside ≡ new =
          some_is (sym (numbered_own w.besides c.0 Turn.client.beside b beside) ∙ ap (λ xs. numbered xs c.0) (sym beside_list)
          ∙ ap (numbered V.besides) (sym i) ∙ q) in (
            b,
            ap (numbered w.besides) i ∙ beside,
            λ l h. from l ((goes e w so pe st c old site b input there same beside why).leaves l (subst (λ (y : ClientBeside). Has l y.leaves) (sym z) h)),
          )
        where
          from : (l : Leave) → (Has l b.leaves) ⊎ (heard_in input ≡ Some (HeardLeave l)) → (Has l b.leaves) ⊎ (IsNew w n e l)
          from l (inl h) = inl h
          from l (inr r) = inr (subst (λ j. IsNew w j e l) (sym i) (new_leave l r))
      besides n new q (inr ne) =
          (new, sym (numbered_other w.besides c.0 n Turn.client.beside low ne) ∙ ap (λ xs. numbered xs n) (sym beside_list) ∙ q, λ l h. inl h)
