-- What rewriting answers, in terms of its definition. Own.
use Rattle.std.specs.Prelude.{◌≡◌, Result, Ok, Err}
use Rattle.erim_defs.specs.declared.fault.ImageFault.{ImageFault}
use Rattle.erim_defs.specs.declared.fault.ImageFault.TheVariants as faults
use Rattle.erim_defs.specs.Rewriting.Rewriting.{Fault, NotImage}
use Rattle.erim_defs.specs.Rewriting.Rewriting as definitions
use Rattle.rewrite_sites.specs.Shown.{sites_of}
use Rattle.rewrite_sites.specs.declared.regions.SiteFault.{SiteFault}
use Rattle.rewrite_sites.specs.declared.regions.SiteFault.TheVariants as sites
use Rattle.copy_layout.specs.declared.layout.LayoutFault.{LayoutFault}
use Rattle.copy_layout.specs.declared.layout.LayoutFault.TheVariants as layouts
use Rattle.overlap_rewrite.specs.declared.rewriting.Rewritten.{Rewritten}
use Rattle.overlap_rewrite.specs.declared.rewriting.RewriteFault.{RewriteFault}
use Rattle.overlap_rewrite.specs.declared.rewriting.RewriteFault.TheVariants.{Image, Cannot}
use Rattle.overlap_rewrite.specs.declared.rewriting.RewriteFault.TheVariants.{NoRoom, Memory}

-- it has the bytes, and a site for each region
pub record RewrittenIs (answer : Result definitions.Rewritten Fault)
    (new : Rewritten) : Type 0 where
  pub is : definitions.Rewritten
  pub answer_is : answer ≡ Ok is
  pub bytes : new.bytes.items ≡ is.bytes
  pub sites : new.sites.list.items ≡ sites_of is.regions

-- it is the same fault, or memory ran out
abbrev pub RewriteFaultIs : Result definitions.Rewritten Fault → RewriteFault → Type 0
RewriteFaultIs answer (Image fault) = answer ≡ Err (NotImage fault)
RewriteFaultIs answer (Cannot at why) = answer ≡ Err (definitions.Cannot at why)
RewriteFaultIs answer (NoRoom at) = answer ≡ Err (definitions.NoRoom at)
RewriteFaultIs answer Memory = Unit {0}

-- ---- the faults of images, sites and layouts

abbrev pub image_fault : ImageFault → RewriteFault
image_fault faults.Memory = Memory
image_fault fault = Image fault

abbrev pub site_fault : SiteFault → RewriteFault
site_fault (sites.Cannot at why) = Cannot at why
site_fault sites.Memory = Memory

abbrev pub layout_fault : LayoutFault → RewriteFault
layout_fault (layouts.NoRoom at) = NoRoom at
layout_fault layouts.Memory = Memory
