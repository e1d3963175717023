-- WHICH REQUEST the values of a command are, by the names of its options, their defaults and their ranges.
use Rattle.std.specs.Prelude.{◌≡◌, ◌≢◌, ◌⊎◌, List, [], ◌∷◌, true, false, Option, Some, None, codes, option_to_list, ⊤}
use Rattle.clap.specs.Words.{Row, Text, first_of}
use Rattle.g1_command.specs.Values.{IfGiven, IsCostOf, IsNumber, IsNumberOf, IsOff, IsRegion, texts_of}
use Rattle.g1_answers.specs.declared.question.NewImage.{NewImage}
use Rattle.g1_answers.specs.declared.question.NewImage.TheVariants.{Repacked, Paused}
use Rattle.g1_answers.specs.Asked.{AreNumbersOf, AsksQuestion, IsNoQuestion, IsSharingOf}
use Rattle.g1_command.specs.Lists.{AreRegionsIn, parts_of}
use Rattle.g1heap_request.specs.declared.dump.Convert.{Convert}
use Rattle.g1heap_request.specs.declared.dump.HeapSizes.{HeapSizes}
use Rattle.g1heap_request.specs.declared.options.Explain.{Explain}
use Rattle.g1heap_request.specs.declared.options.ImageAfter.{ImageAfter}
use Rattle.g1heap_request.specs.declared.options.Part.{Part}
use Rattle.g1heap_request.specs.declared.options.Part.TheVariants.{Whole, Region, Object, Summary}
use Rattle.g1heap_request.specs.declared.options.Request.{Request}
use Rattle.g1heap_request.specs.declared.options.Request.TheVariants as request
use Rattle.g1heap_request.specs.declared.options.Same.{Same}
use Rattle.g1heap_request.specs.declared.options.Trace.{Trace}
use Rattle.g1heap_request.specs.declared.options.Why.{Why}
use Rattle.g1heap_request.specs.InRange.{AreInRange}
use Rattle.g1heap_request.specs.Together.{ArePrinted, CoversYoung, FillsOfSet, IsLeftOut, IsOneChoice, NamesBoth, ReadsOnce, TellsOfPart, compared, named}
use Rattle.g1heap_request.specs.Values.{AreLimitsOf, AreTextsOf, GoesTo, IsCount, IsFlag, IsImageOf, IsNameIfGiven, IsNameOf, IsOutputOf, standard}

-- TWO IMAGES to compare
pub record IsSameOf (rows : List Row) (same : Same) : Type 0 where
  pub before : IsNameOf rows (codes "before") same.before.bytes.items
  pub after : IsNameOf rows (codes "after") same.after.bytes.items
  pub limits : AreLimitsOf rows same.limits
  pub covered : IsFlag rows (codes "covered") same.covered
  pub young : AreRegionsIn (option_to_list (first_of (codes "young") rows)) same.young.items
  pub set : AreRegionsIn (texts_of rows (codes "set")) same.set.items
  pub fill : IsFlag rows (codes "fill") same.fill
  pub names : IsNameIfGiven rows (codes "names") same.names
  pub names_after : IsNameIfGiven rows (codes "names-after") same.names_after
  pub moved : IsFlag rows (codes "moved") same.moved
  pub all : IfGiven IsCount (first_of (codes "all") rows) same.all
  pub covers_young : CoversYoung rows
  pub fills_of_set : FillsOfSet rows
  pub names_both : NamesBoth rows
  pub once : ReadsOnce rows compared

-- WHAT IS PRINTED of an image: its numbers alone; or the region, or the object that is given; or else all of it
abbrev pub IsPartOf : List Row → Part → Type 0
IsPartOf rows Summary = IsFlag rows (codes "summary") true
IsPartOf rows (Region r) = IsFlag rows (codes "summary") false × IfGiven IsRegion (first_of (codes "region") rows) (Some r)
IsPartOf rows (Object address) =
    IsFlag rows (codes "summary") false × (first_of (codes "region") rows ≡ None) × IfGiven IsNumber (first_of (codes "object") rows) (Some address)
IsPartOf rows Whole = IsFlag rows (codes "summary") false × (first_of (codes "region") rows ≡ None) × (first_of (codes "object") rows ≡ None)

-- THE SIZES of a heap: three numbers with commas between them
abbrev pub AreSizesIn : List Text → HeapSizes → Type 0
AreSizesIn (words ∷ card ∷ count ∷ []) sizes = IsNumber sizes.region_words words × IsNumber sizes.card_words card × IsNumber sizes.regions count
AreSizesIn _ sizes = ⊥

abbrev pub AreSizesIfGiven : Option Text → Option HeapSizes → Type 0
AreSizesIfGiven None None = ⊤
AreSizesIfGiven (Some text) (Some sizes) = AreSizesIn (parts_of text) sizes
AreSizesIfGiven _ _ = ⊥

-- A HEAP DUMP, or a part of one, of which an image is made
pub record IsConvertOf (rows : List Row) (convert : Convert) : Type 0 where
  pub dump : IsNameOf rows (codes "dump") convert.dump.bytes.items
  pub from : AreTextsOf rows (codes "from") convert.from
  pub without : AreTextsOf rows (codes "without") convert.without
  pub weak : IsFlag rows (codes "weak") convert.weak
  pub dangling_null : IsFlag rows (codes "dangling-null") convert.dangling_null
  pub blank : IsFlag rows (codes "blank") convert.blank
  pub names : IsNameIfGiven rows (codes "names") convert.names
  pub sizes : AreSizesIfGiven (first_of (codes "sizes") rows) convert.sizes
  pub of_part : TellsOfPart rows
  pub file : first_of (codes "names") rows ≢ Some standard
  pub output : IsOutputOf rows convert.output

-- A PAUSE to explain
pub record IsExplainOf (rows : List Row) (explain : Explain) : Type 0 where
  pub image : IsImageOf rows explain.image
  pub cost : IsCostOf rows explain.cost
  pub budget : IfGiven IsNumber (first_of (codes "budget") rows) explain.budget
  pub set : AreRegionsIn (texts_of rows (codes "set")) explain.set.items
  pub map : IsFlag rows (codes "map") explain.map
  pub choice : IsOneChoice rows
  pub map_or_names : IsOff rows (codes "map") ⊎ IsLeftOut rows (codes "names")
  pub once : ReadsOnce rows named
  pub names : IsNameIfGiven rows (codes "names") explain.names
  pub output : IsOutputOf rows explain.output

-- AN OBJECT that is asked about
pub record IsWhyOf (rows : List Row) (why : Why) : Type 0 where
  pub image : IsImageOf rows why.image
  pub address : IsNumberOf rows (codes "address") why.address
  pub names : IsNameIfGiven rows (codes "names") why.names
  pub once : ReadsOnce rows named

-- the image after a command: its number and a file
abbrev pub IsImageAfter : List Text → Option ImageAfter → Type 0
IsImageAfter (number ∷ file ∷ []) (Some after) = IsCount after.command number × GoesTo (Some file) after.output
IsImageAfter (number ∷ file ∷ []) None = ⊥
IsImageAfter _ (Some after) = ⊥
IsImageAfter _ None = ⊤

-- the image after a command does not stand among replies
abbrev pub IsBesideNone : List Row → List Text → Type 0
IsBesideNone rows (number ∷ file ∷ []) = (file ≢ standard) ⊎ IsOff rows (codes "live")
IsBesideNone rows _ = ⊤

-- A TRACE to answer
pub record IsTraceOf (rows : List Row) (trace : Trace) : Type 0 where
  pub name : IsNameOf rows (codes "trace") trace.name.bytes.items
  pub cost : IsCostOf rows trace.cost
  pub live : IsFlag rows (codes "live") trace.live
  pub numbered : IsFlag rows (codes "numbered") trace.numbered
  pub explain : IsFlag rows (codes "explain") trace.explain
  pub image : IsImageAfter (texts_of rows (codes "image")) trace.image
  pub apart : IsBesideNone rows (texts_of rows (codes "image"))

-- AN IMAGE that is made of another one, by a pause or by `--repack`; or none is made
abbrev pub MakesImage : Text → List Row → NewImage → Type 0
MakesImage name rows (Repacked sharing) = (name ≢ codes "pause") × IsFlag rows (codes "repack") true × IsSharingOf rows sharing
MakesImage name rows (Paused pause) = (name ≡ codes "pause") × AreNumbersOf rows pause × AreRegionsIn (texts_of rows (codes "set")) pause.regions.items × IsOneChoice rows

abbrev pub MakesNoImage : Text → List Row → Type 0
MakesNoImage name rows = (name ≢ codes "pause") × IsFlag rows (codes "repack") false

-- a command of this name makes no image and asks no question
abbrev pub IsNoneAsked : Text → Type 0
IsNoneAsked name = (name ≢ codes "pause") × IsNoQuestion name

-- no command has this name but the one that makes an image of lines
abbrev pub IsNoOther : Text → Type 0
IsNoOther name =
    IsNoneAsked name × (name ≢ codes "same") × (name ≢ codes "print") × (name ≢ codes "convert") × (name ≢ codes "explain") × (name ≢ codes "why") × (name ≢ codes "trace")

-- THE REQUEST that a command of this name makes by its values
abbrev pub Asks : Text → List Row → Request → Type 0
Asks name rows (request.Same same) = (name ≡ codes "same") × IsSameOf rows same
Asks name rows (request.Print image part hex output) =
    (name ≡ codes "print") × IsImageOf rows image × IsPartOf rows part × ArePrinted rows × IsFlag rows (codes "hex") hex × IsOutputOf rows output
Asks name rows (request.Make lines output) = IsNoOther name × IsNameOf rows (codes "lines") lines.bytes.items × IsOutputOf rows output
Asks name rows (request.Convert convert) = (name ≡ codes "convert") × IsConvertOf rows convert
Asks name rows (request.Explain explain) = (name ≡ codes "explain") × IsExplainOf rows explain
Asks name rows (request.Why why) = (name ≡ codes "why") × IsWhyOf rows why
Asks name rows (request.Trace trace) = (name ≡ codes "trace") × IsTraceOf rows trace
Asks name rows (request.Ask ask) =
    IsFlag rows (codes "repack") false × IsImageOf rows ask.image × AsksQuestion name rows ask.question × AreInRange rows × IsOutputOf rows ask.output
Asks name rows (request.Rewrite rewrite) = IsImageOf rows rewrite.image × MakesImage name rows rewrite.wanted × AreInRange rows × IsOutputOf rows rewrite.output
Asks name rows (request.Help text) = ⊥
