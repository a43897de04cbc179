use Rattle.std.proofs.Common.{◌≡◌, ℕ, List, ◌+◌, ◌++◌, ◌∷◌, [], true, false, length, sym, ap, subst, ◌∙◌}
use Rattle.std.proofs.lemmas.List.{length-append}
use Rattle.st_codec.specs.Spelling.{spelling}
use Rattle.st_codec.proofs.Sized.{spelling_length}
use Rattle.st_messages.specs.Ranges.{fits}
use Rattle.st_messages.specs.Sizes.{size_of}
use Rattle.st_messages.specs.declared.message.Message.{Message}
use Rattle.st_world_parts.specs.declared.places.SentPlace.{SentPlace}
use Rattle.st_world_parts.specs.Pieces.{ArePlaces, messages_at}
use Rattle.st_world_parts.proofs.Stays.{IsNew, places_sent, messages_sent}
use Rattle.st_world_parts.proofs.network.Network.send.Goals as goal

-- a place after the bytes, as long as the spelling
is_new : (bytes spelled : List ℕ) (m : Message) (p : SentPlace) (start len : ℕ) → fits m ≡ true →
    p ≡ record { start = start; len = len; from = m.header.from; to = m.header.to; lost = false } → start ≡ length bytes → len ≡ length spelled → spelled ≡ spelling m → IsNew bytes m p
is_new bytes spelled m p start len f e s l w = record {
  fits = f;
  start = ap (λ (x : SentPlace). x.start) e ∙ s;
  len = ap (λ (x : SentPlace). x.len) e ∙ l ∙ ap length w;
  from = ap (λ (x : SentPlace). x.from) e;
  to = ap (λ (x : SentPlace). x.to) e;
  lost = ap (λ (x : SentPlace). x.lost) e;
}

pub invariant_of-self-2 : goal.invariant_of-self-2
invariant_of-self-2 c =
    let m = c.args.message.now in
    let bytes = c.self.inside.bytes.items in
    let spelled : c.put_message.new.out.items ≡ spelling m = c.in_ok-put_message.ensures ∙ ap (λ l. l ++ spelling m) c.clear.ensures.items in
    let bytes_are : c.extend_from_slice.new.self.items ≡ bytes ++ spelling m = c.in_ok-extend_from_slice.ensures.items ∙ (λ i. c.in_ok-reserve-2.ensures.items i ++ (c.deref.ensures.value ∙ spelled) i) in
    let places_are : c.push.new.self.items ≡ c.self.inside.places.items ++ c.in_ok-place.place ∷ [] = c.in_ok-push.ensures.items ∙ ap (λ ps. ps ++ c.in_ok-place.place ∷ []) c.in_ok-reserve.ensures.items in
    let new = is_new bytes _ m c.in_ok-place.place _ _ c.requires c.in_ok-place.ensures (c.len.ensures ∙ c.self.inside.bytes.ok.0) (c.len-2.ensures ∙ c.put_message.new.out.ok.0) spelled in
    subst (λ bs. ArePlaces bs c.push.new.self.items) (sym bytes_are)
    (subst (ArePlaces (bytes ++ spelling m)) (sym places_are)
    (places_sent bytes c.self.inside.places.items m c.in_ok-place.place c.self.invariant new))

pub returns-clause-ok : goal.returns-clause-ok
returns-clause-ok c =
    let m = c.args.message.now in
    let bytes = c.self.inside.bytes.items in
    let spelled : c.put_message.new.out.items ≡ spelling m = c.in_ok-put_message.ensures ∙ ap (λ l. l ++ spelling m) c.clear.ensures.items in
    let bytes_are : c.extend_from_slice.new.self.items ≡ bytes ++ spelling m = c.in_ok-extend_from_slice.ensures.items ∙ (λ i. c.in_ok-reserve-2.ensures.items i ++ (c.deref.ensures.value ∙ spelled) i) in
    let places_are : c.push.new.self.items ≡ c.self.inside.places.items ++ c.in_ok-place.place ∷ [] = c.in_ok-push.ensures.items ∙ ap (λ ps. ps ++ c.in_ok-place.place ∷ []) c.in_ok-reserve.ensures.items in
    let new = is_new bytes _ m c.in_ok-place.place _ _ c.requires c.in_ok-place.ensures (c.len.ensures ∙ c.self.inside.bytes.ok.0) (c.len-2.ensures ∙ c.put_message.new.out.ok.0) spelled in
    let all : messages_at c.extend_from_slice.new.self.items c.push.new.self.items ≡ messages_at bytes c.self.inside.places.items ++ record { message = m; lost = false } ∷ [] =
    (λ i. messages_at (bytes_are i) (places_are i)) ∙ messages_sent bytes c.self.inside.places.items m c.in_ok-place.place c.self.invariant new in
    let long : length c.extend_from_slice.new.self.items ≡ length bytes + size_of m =
    ap length bytes_are ∙ length-append bytes (spelling m) ∙ ap (λ n. length bytes + n) (spelling_length m) in
    rw (← c.self.view_is) ((λ i. record { messages = all i; cuts = c.self.inside.cuts.items; bytes = long i }))
