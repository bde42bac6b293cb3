-- Classes that may be replaced by others, as they are joined.
use Rattle.std.proofs.Common.{◌≡◌, ℕ, suc, ◌<◌, List, [], ◌∷◌, ◌++◌, length, get_or, take, drop, sym, ap, subst, ◌∙◌}
use Rattle.std.proofs.Common.{append_assoc}
use Rattle.std.specs.List.{remove}
use Rattle.std.proofs.Math.Seq.{drop-cons}
use Rattle.std.proofs.lemmas.List.{take-append-drop}
use Rattle.life_objects.specs.Apart.{AreApart}
use Rattle.life_objects.specs.Union.{union}
use Rattle.life_classes.specs.declared.class.Class.{Class}
use Rattle.life_classes.specs.Tracking.{AreTracked, LeadTo}
use Rattle.life_classes.proofs.Merging.{halves_tracked, in_turn}
use Rattle.life_classes.proofs.Tracked.{to_front, from_front, joined_tracked}

pub lead_same : (cs : List Class) → LeadTo cs cs
lead_same cs R b n G rest h t = t

pub lead_front : (c : Class) (cs ds : List Class) → LeadTo (cs ++ (c ∷ ds)) (c ∷ (cs ++ ds))
lead_front c cs ds R b n G rest h t =
    subst (λ es. AreTracked R b n G (c ∷ es)) (sym (append_assoc cs ds rest))
    (to_front R b n G c cs (ds ++ rest) (subst (AreTracked R b n G) (append_assoc cs (c ∷ ds) rest) t))

pub lead_back : (c : Class) (cs ds : List Class) → LeadTo (c ∷ (cs ++ ds)) (cs ++ (c ∷ ds))
lead_back c cs ds R b n G rest h t =
    subst (AreTracked R b n G) (sym (append_assoc cs (c ∷ ds) rest))
    (from_front R b n G c cs (ds ++ rest)
    (subst (λ es. AreTracked R b n G (c ∷ es)) (append_assoc cs ds rest) t))

-- ---- a class taken from others

pub parted : (cs : List Class) (n : ℕ) (d : Class) → n < length cs → d ≡ get_or cs n d →
    cs ≡ take n cs ++ (d ∷ drop (suc n) cs)
parted cs n d h at =
    sym (take-append-drop n cs)
    ∙ ap (λ es. take n cs ++ es) (drop-cons cs n d h ∙ ap (λ e. e ∷ drop (suc n) cs) (sym at))

pub taken_first : (cs : List Class) (n : ℕ) (d : Class) → n < length cs → d ≡ get_or cs n d →
    LeadTo cs (d ∷ remove cs n)
taken_first cs n d h at =
    subst (λ es. LeadTo es (d ∷ remove cs n)) (sym (parted cs n d h at)) (lead_front d (take n cs) (drop (suc n) cs))

-- ---- two classes as one

pub lead_joined : (c d e : Class) (cs : List Class) → e.first ≡ union d.first c.first → e.last ≡ union d.last c.last →
    ¬ AreApart d.last c.last → LeadTo (d ∷ (c ∷ cs)) (e ∷ cs)
lead_joined c d e cs first last meet R b n G rest h t = joined_tracked R b n G d c e (cs ++ rest) first last t h meet

pub lead_gathered : (c d e : Class) (cs : List Class) (n : ℕ) → n < length cs → d ≡ get_or cs n d →
    e.first ≡ union d.first c.first → e.last ≡ union d.last c.last → ¬ AreApart d.last c.last →
    LeadTo (c ∷ cs) (e ∷ remove cs n)
lead_gathered c d e cs n h at first last meet =
    let rest = remove cs n in
    let one = c ∷ [] in
    in_turn (c ∷ cs) (c ∷ (d ∷ rest)) (e ∷ rest)
    (halves_tracked one cs one (d ∷ rest) (lead_same one) (taken_first cs n d h at))
    (in_turn (c ∷ (d ∷ rest)) (d ∷ (c ∷ rest)) (e ∷ rest) (lead_front d one rest)
    (lead_joined c d e rest first last meet))
