-- The refusal that each fault of a file stands for. Assumes nothing.
use Rattle.refusals.specs.declared.refusal.Refusal.{Refusal}
use Rattle.refusals.specs.Faults.{file_refusal, net_refusal}
use Rattle.netfile.specs.declared.survey.SurveyFault.{SurveyFault}

-- the layer belongs to the case
abbrev pub survey_refusal : SurveyFault → Refusal
survey_refusal (SurveyFault.File f) = file_refusal f
survey_refusal (SurveyFault.Net f) = net_refusal f
