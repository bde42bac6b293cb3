-- No value of a thing is a float.
use Rattle.std.proofs.Common.{◌≡◌, false, List, [], ◌∷◌, refl, map}
use Rattle.serde_json.specs.Data.{Members, no_members, object, put}
use Rattle.serde_json.specs.Written.{has_float, members_have_float}
use Rattle.life_answer.specs.declared.part.Part.{Part}
use Rattle.life_answer.specs.declared.tale.Engines.{Engines}
use Rattle.census_facts.proofs.JsonLemmas.Floatless.{counted-floatless, displacement-floatless, engines-floatless, items-floatless, put-floatless}
use Rattle.census_facts.specs.Names.{Entry, name_in}
use Rattle.census_facts.specs.Facts.{Content, Thing}
use Rattle.census_facts.specs.Facts as told
use Rattle.census_facts.specs.Values.{content_data, kind_data, part_data, with_things}

part-floatless : (names : List Entry) (part : Part) → has_float (part_data names part) ≡ false
part-floatless names part = counted-floatless part.code part.count (name_in names part.code)

kind-floatless : (names : List Entry) (kind : Engines) → has_float (kind_data names kind) ≡ false
kind-floatless names kind =
    engines-floatless kind.tale.period kind.tale.dx kind.tale.dy kind.count (map (part_data names) kind.tale.emits)
    (items-floatless (part_data names) (part-floatless names) kind.tale.emits)

content-floatless : (names : List Entry) (content : Content) → has_float (content_data names content) ≡ false
content-floatless names (told.number n) = refl
content-floatless names (told.size width height) = refl
content-floatless names (told.moves dx dy) = displacement-floatless dx dy
content-floatless names (told.text bytes) = refl
content-floatless names (told.parts list) = items-floatless (part_data names) (part-floatless names) list
content-floatless names (told.engines list) = items-floatless (kind_data names) (kind-floatless names) list

with-floatless : (names : List Entry) (things : List Thing) (ms : Members) → members_have_float ms ≡ false → members_have_float (with_things names things ms) ≡ false
with-floatless names [] ms h = h
with-floatless names (thing ∷ things) ms h =
    with-floatless names things (put thing.name (content_data names thing.content) ms)
    (put-floatless thing.name (content_data names thing.content) ms (content-floatless names thing.content) h)

pub things-floatless : (names : List Entry) (things : List Thing) → has_float (object (with_things names things no_members)) ≡ false
things-floatless names things = with-floatless names things no_members refl
